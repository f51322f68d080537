-- What a steered logger's writers share may go to another thread, since each of its parts may.
use denote.Param.Send.{IsSend, sendable, view_send}
use denote.Param.SendFields.{declared_send}
use denote.RattleType.{RattleType}
use Rattle.std.proofs.Crossing.{crosses}
use Rattle.defmt_frames.proofs.sites.Sites.TheSendSync.{the_send as sites_send}
use Rattle.defmt_hooks.specs.declared.clock.Clock as clock
use Rattle.defmt_writers.proofs.Sends.{script_send}
use Rattle.rtt_down.proofs.course.Course.TheSendSync.{the_send as course_send}
use Rattle.rtt_down.specs.contracts.bridge.Bridge.{the_row as bridge_row}
use Rattle.rtt_down.specs.contracts.bridge.Bridge.TheInside.{the_type as inside_type}
use Rattle.rtt_down.specs.contracts.steering.Steering.{the_row as steering_row}
use Rattle.rtt_down.specs.declared.steering.Naming as naming
use Rattle.rtt_ring.specs.declared.ends.DownEnd as down
use Rattle.rtt_ring.specs.declared.ends.UpEnd as up

bridge_send : (U D C : RattleType) (u : up.Ghosts U.Denot) (d : down.Ghosts D.Denot) (k : clock.Ghosts C.Denot) → IsSend U → IsSend D → IsSend C → IsSend (bridge_row U D C u d k)
bridge_send U D C u d k a b e =
    view_send _ _ _ _ _
    (declared_send (inside_type U D C u d k) (
      search (sendable, script_send) depth 60,
      (
        search (sendable, sites_send) depth 60,
        (
          search (sendable, course_send) depth 60,
          (
            search sendable depth 60,
            (
              search (sendable, crosses) depth 60,
              (
                search (sendable, crosses) depth 60,
                (
                  search (sendable, crosses) depth 60,
                  (
                    search sendable depth 60,
                    (search sendable depth 60, tt),
                  ),
                ),
              ),
            ),
          ),
        ),
      ),
    ))

pub steering_send : (K U D C : RattleType) (n : naming.Ghosts K.Denot) (u : up.Ghosts U.Denot) (d : down.Ghosts D.Denot) (k : clock.Ghosts C.Denot)
    → IsSend K → IsSend U → IsSend D → IsSend C → IsSend (steering_row K U D C n u d k)
steering_send K U D C n u d k sk su sd sc = search (sendable, crosses, bridge_send) depth 60
