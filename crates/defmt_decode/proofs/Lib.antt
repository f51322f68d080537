mod Behind
mod Bytes
mod Deciding
mod Gaps
mod InFrames
mod Planned
mod Sending
