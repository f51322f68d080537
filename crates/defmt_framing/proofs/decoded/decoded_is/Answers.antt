use Rattle.defmt_framing.proofs.Agree.{decoded_found, decoded_again, decoded_none}
use Rattle.defmt_framing.proofs.decoded.decoded_is.Goals as goal

pub returns-clause-found : goal.returns-clause-found
returns-clause-found c code bytes blocks = decoded_found code bytes blocks

pub returns-clause-again : goal.returns-clause-again
returns-clause-again c code bytes is = decoded_again code bytes is

pub returns-clause-none : goal.returns-clause-none
returns-clause-none c code none = decoded_none code none
