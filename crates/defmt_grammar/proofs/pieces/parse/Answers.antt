use Rattle.defmt_grammar.proofs.PiecesLaws.{gives_only, refuses_only}
use Rattle.defmt_grammar.proofs.pieces.parse.Goals as goal

pub returns-clause-spelled : goal.returns-clause-spelled
returns-clause-spelled c = λ ps s. gives_only c.args.text.now c.args.mode c.pieces_of.result ps c.pieces_of.ensures s

pub returns-clause-refused : goal.returns-clause-refused
returns-clause-refused c = λ number at f. refuses_only c.args.text.now c.args.mode c.pieces_of.result number at c.pieces_of.ensures f
