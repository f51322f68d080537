use Rattle.defmt_decode.proofs.Deciding.{only, is_event, suits}
use Rattle.defmt_decode.proofs.laws.one_event.Goals as goal

pub returns-clause-is : goal.returns-clause-is
returns-clause-is c t piece all = is_event t piece all

pub returns-clause-only : goal.returns-clause-only
returns-clause-only c t piece event is = only t piece event is

pub returns-clause-placed : goal.returns-clause-placed
returns-clause-placed c t piece event is = suits t piece event is
