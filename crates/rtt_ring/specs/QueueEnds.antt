-- What contracts see of the two ends of a queue ring.
use Rattle.std.specs.Prelude.{false, slice_index, []}
use Rattle.rtrb.specs.Ring.{sent, received}
use Rattle.rtt_ring.specs.Views.{Up, Down}
use Rattle.rtt_ring.specs.declared.queue.up.QueueUp.{QueueUp}
use Rattle.rtt_ring.specs.declared.queue.down.QueueDown.{QueueDown}
use Rattle.rtt_ring.specs.QueueName.{name_of_producer, name_of_consumer}

abbrev pub up_of : QueueUp → Up
up_of u = record {
  split = name_of_producer u.producer;
  size = u.size;
  sent = sent u.producer;
  staged = u.staged.items;
  room = u.room;
  looks = slice_index u.looked.numbers 0;
  freed = 0;
  tells = false;
  seen = [];
}

abbrev pub down_of : QueueDown → Down
down_of d = record {
  split = name_of_consumer d.consumer;
  size = d.size;
  got = received d.consumer;
  found = slice_index d.looked.numbers 1;
  looks = slice_index d.looked.numbers 0;
}
