pub mod Frames
mod SiteLaws
mod SiteRows
mod Stamps
