-- What a logger's writers share may go to another thread, since each of its parts may.
use denote.Param.Send.{IsSend, sendable, view_send}
use denote.Param.SendFields.{declared_send}
use denote.RattleType.{RattleType}
use Rattle.std.proofs.Crossing.{crosses}
use Rattle.defmt_frames.proofs.sites.Sites.TheSendSync.{the_send as sites_send}
use Rattle.defmt_hooks.specs.declared.clock.Clock as clock
use Rattle.defmt_intern.proofs.table.Table.TheSendSync.{the_send as table_send}
use Rattle.defmt_lines.proofs.settings.Settings.TheSendSync.{the_send as settings_send}
use Rattle.defmt_logger.proofs.tape.Tape.TheSendSync.{the_send as tape_send}
use Rattle.defmt_logger.specs.contracts.desk.Desk.{the_row as desk_row}
use Rattle.defmt_logger.specs.contracts.desk.Desk.TheInside.{the_type as inside_type}
use Rattle.defmt_logger.specs.contracts.logging.Logging.{the_row as logging_row}
use Rattle.defmt_logger.specs.declared.logging.Naming as naming
use Rattle.defmt_script.specs.contracts.script.Script.{the_row as script_row}
use Rattle.defmt_script.specs.contracts.script.Script.TheInside.{the_type as script_inside}
use Rattle.defmt_script.specs.contracts.script.Statements.{the_row as statements_row}
use Rattle.defmt_spelling.proofs.names.Names.TheSendSync.{the_send as names_send}
use Rattle.defmt_values.proofs.value.Args.TheLaws.TheKnot.{crosses as values_cross}
use Rattle.defmt_values.specs.contracts.value.Statement.{the_row as statement_row}
use Rattle.rtt_ring.specs.declared.ends.UpEnd as up
use Rattle.rtt_terminal.proofs.speech.Speech.TheSendSync.{the_send as speech_send}

-- a part, and those behind it
joined : {A B : Type 0} → A → B → A × B
joined a b = (a, b)

statement_send : IsSend statement_row
statement_send = search (sendable, crosses, values_cross) depth 60

statements_send : IsSend statements_row
statements_send = search (sendable, crosses, statement_send) depth 60

pub script_send : IsSend script_row
script_send =
    view_send _ _ _ _ _
    (declared_send script_inside
    (joined (search (sendable, settings_send) depth 60)
    (joined (search (sendable, table_send) depth 60)
    (joined (search (sendable, names_send) depth 60)
    (joined (search (sendable, crosses, statements_send) depth 60)
    (joined (search (sendable, speech_send) depth 60) tt))))))

desk_send : (U C : RattleType) (u : up.Ghosts U.Denot) (k : clock.Ghosts C.Denot) → IsSend U → IsSend C → IsSend (desk_row U C u k)
desk_send U C u k a b =
    view_send _ _ _ _ _
    (declared_send (inside_type U C u k)
    (joined (search (sendable, script_send) depth 60)
    (joined (search (sendable, sites_send) depth 60)
    (joined (search (sendable, tape_send) depth 60)
    (joined (search sendable depth 60)
    (joined (search sendable depth 60)
    (joined (search (sendable, crosses) depth 60)
    (joined (search (sendable, crosses) depth 60)
    (joined (search sendable depth 60) tt)))))))))

pub logging_send : (K U C : RattleType) (n : naming.Ghosts K.Denot) (u : up.Ghosts U.Denot) (k : clock.Ghosts C.Denot)
    → IsSend K → IsSend U → IsSend C → IsSend (logging_row K U C n u k)
logging_send K U C n u k sk su sc = search (sendable, crosses, desk_send) depth 60
