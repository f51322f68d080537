-- A side may go to another thread, since each of its parts may.
use denote.Param.{param}
use denote.Param.Send.{IsSend, IsSync, sendable, view_send}
use denote.Param.SendFields.{as_row_sync, declared_send, declared_sync}
use denote.RattleType.{RattleType}
use denote.Ref.{NamedLft}
use Rattle.std.proofs.Crossing.{crosses, frees, send, sync}
use Rattle.defmt_decode.specs.contracts.host.Host.{the_row as host_row}
use Rattle.defmt_decode.specs.contracts.host.Host.TheInside.{the_type as host_inside}
use Rattle.defmt_decode.specs.contracts.reader.Reader.{the_row as reader_row}
use Rattle.defmt_decode.specs.contracts.reader.Reader.TheInside.{the_type as reader_inside}
use Rattle.defmt_encode.specs.contracts.heard.Heard.{the_row as heard_row}
use Rattle.defmt_framing.proofs.framer.Framer.TheSendSync.{the_send as framer_send}
use Rattle.defmt_plan.proofs.planned.PlannedTable.TheSendSync.{the_sync as planned_sync}
use Rattle.defmt_recording.proofs.styled.Styled.TheSendSync.{the_send as styled_send}
use Rattle.defmt_recording.specs.contracts.host_listener.HostListener.{the_row as listener_row, the_type as listener_type}
use Rattle.defmt_values.proofs.value.Args.TheLaws.TheKnot.{crosses as values_cross}
use Rattle.defmt_blocks.proofs.lines.Lines.TheSendSync.{the_send as lines_send}
use Rattle.defmt_blocks.specs.contracts.side.Side.{the_row as side_row, the_type as side_type}
use Rattle.defmt_blocks.specs.contracts.sent.Sent.{the_row as sent_row, the_type as sent_type}
use Rattle.crossbeam_channel.proofs.channel.Receiver.TheSendSync.{the_sync as receiver_sync}
use Rattle.crossbeam_channel.proofs.channel.Sender.TheSendSync.{the_sync as sender_sync}
use Rattle.crossbeam_channel.specs.contracts.channel.Receiver.{the_field as receiver_field}
use Rattle.crossbeam_channel.specs.contracts.channel.Sender.{the_field as sender_field}
use Rattle.std.specs.contracts.alloc.Global.{the_row as global_row}
use Rattle.std.specs.contracts.impls.GlobalAllocator.TheImpl.{ghosts}
use Rattle.defmt_blocks.specs.contracts.pool.There.{the_row as there_row, the_type as there_type}
use Rattle.defmt_blocks.specs.declared.sent.Kin.{Ghosts}

-- a part, and those behind it
joined : {A B : Type 0} → A → B → A × B
joined a b = (a, b)

heard_send : IsSend heard_row
heard_send = search (sendable, crosses, values_cross) depth 60

reader_send : (a : NamedLft) → IsSend (reader_row a)
reader_send a =
    view_send _ _ _ _ _
    (declared_send (reader_inside a)
    (joined (search (sendable, crosses) depth 60)
    (joined (search (sendable, planned_sync) depth 60)
    (joined (search (sendable, crosses) depth 60)
    (joined (search (sendable, crosses) depth 60)
    (joined (search (sendable, heard_send) depth 60) tt))))))

host_send : (a : NamedLft) → IsSend (host_row a)
host_send a =
    view_send _ _ _ _ _
    (declared_send (host_inside a)
    (joined (search (sendable, reader_send) depth 60)
    (joined (search (sendable, framer_send) depth 60) tt)))

listener_send : (a : NamedLft) → IsSend (listener_row a)
listener_send a = declared_send (listener_type a) (joined (search (sendable, host_send) depth 60) tt)

pub side_send : (a : NamedLft) → IsSend (side_row a)
side_send a =
    declared_send (side_type a)
    (joined (search (sendable, listener_send) depth 60)
    (joined (search (sendable, styled_send) depth 60)
    (joined (search (sendable, crosses) depth 60)
    (joined (search (sendable, lines_send) depth 60)
    (joined (search sendable depth 60)
    (joined (search (sendable, crosses) depth 60) tt))))))

-- a message may, since its side may
pub sent_send : (a : NamedLft) (G : RattleType) (kin : Ghosts G.Denot) → IsSend (param 0 G) → IsSend (sent_row a G kin)
sent_send a G kin g =
    declared_send (sent_type a G kin)
    (joined (search (sendable, side_send) depth 60)
    (joined (search (sendable, crosses) depth 60)
    (joined (search sendable depth 60)
    (joined (search (sendable, crosses) depth 60) tt))))

-- the ends of channels are shared, since messages may cross
pub there_sync : (a : NamedLft) (G : RattleType) (kin : Ghosts G.Denot) → IsSend (param 0 G) → IsSync (there_row a G kin)
there_sync a G kin g =
    let sent : IsSend (sent_row a G kin) = sent_send a G kin g in
    declared_sync (there_type a G kin)
    (joined (as_row_sync (receiver_field (sent_row a G kin) global_row ghosts) (receiver_sync (sent_row a G kin) global_row ghosts sent send sync frees))
    (joined (as_row_sync (sender_field (sent_row a G kin) global_row ghosts) (sender_sync (sent_row a G kin) global_row ghosts sent send sync frees)) tt))
