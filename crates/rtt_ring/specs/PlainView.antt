-- What contracts see of the two ends of a plain ring.
use Rattle.rtt_ring.specs.declared.plain.PlainRing.{PlainRing}
use Rattle.rtt_ring.specs.JournalView.{name_of, traffic_of}
use Rattle.rtt_ring.specs.Plain.{up_view, down_view}
use Rattle.rtt_ring.specs.Views.{Up, Down}

abbrev pub up_of : PlainRing → Up
up_of r = up_view (name_of r.journal) r.size r.room (traffic_of r.journal)

abbrev pub down_of : PlainRing → Down
down_of r = down_view (name_of r.journal) r.size (traffic_of r.journal)
