use Rattle.std.proofs.Common.{◌++◌, List, ℕ, codes, refl}
use Rattle.std.specs.Prelude.{map}
use Rattle.defmt_hints.specs.Printed.{list_text, printed_byte}
use Rattle.defmt_hints.proofs.Chains.{pending_none, pending_step, pending_full}
use Rattle.defmt_hints.proofs.Elements.{list_none, list_first}
use Rattle.defmt_hints.specs.Lists.{others_text}
use Rattle.defmt_hints.proofs.lists.put_list.Goals as goal

pub returns-in_err-start : goal.returns-in_err-start
unfolding list_text
returns-in_err-start c =
    rw c.from_residual.ensures (pending_full (codes "[") _ refl (pending_none c.args.out.now c.args.at (list_text (map (printed_byte c.args.hint) c.args.bytes.now)) c.requires) c.in_err-start.ensures)

pub returns-in_default : goal.returns-in_default
returns-in_default c =
    let f : ℕ → List ℕ = printed_byte c.args.hint in
    let none = pending_none c.args.out.now c.args.at (list_text (map f c.args.bytes.now)) c.requires in
    let one = pending_step (codes "[") (codes "]") (list_none f c.args.bytes.now c.in_default.ensures.cases) none c.in_ok-start.ensures in
    one.goes c.put-in_default.result c.put-in_default.new.out c.put-in_default.ensures

pub returns-in_err-one : goal.returns-in_err-one
returns-in_err-one c =
    let f : ℕ → List ℕ = printed_byte c.args.hint in
    let first : List ℕ = f c.in-Some.first.now in
    let others : List ℕ = others_text f c.in-Some.others.now in
    let none = pending_none c.args.out.now c.args.at (list_text (map f c.args.bytes.now)) c.requires in
    let one = pending_step (codes "[") (first ++ (others ++ codes "]")) (list_first f c.args.bytes.now c.in-Some.others.now c.in-Some.first.now c.in-Some.ensures.cases.0) none c.in_ok-start.ensures in
    rw c.from_residual-in_err-one.ensures (pending_full first (others ++ codes "]") refl one c.in_err-one.ensures)

pub returns-in_err-all : goal.returns-in_err-all
returns-in_err-all c =
    let f : ℕ → List ℕ = printed_byte c.args.hint in
    let first : List ℕ = f c.in-Some.first.now in
    let others : List ℕ = others_text f c.in-Some.others.now in
    let none = pending_none c.args.out.now c.args.at (list_text (map f c.args.bytes.now)) c.requires in
    let one = pending_step (codes "[") (first ++ (others ++ codes "]")) (list_first f c.args.bytes.now c.in-Some.others.now c.in-Some.first.now c.in-Some.ensures.cases.0) none c.in_ok-start.ensures in
    let two = pending_step first (others ++ codes "]") refl one c.in_ok-one.ensures in
    rw c.from_residual-in_err-all.ensures (pending_full others (codes "]") refl two c.in_err-all.ensures)

pub returns : goal.returns
returns c =
    let f : ℕ → List ℕ = printed_byte c.args.hint in
    let first : List ℕ = f c.in-Some.first.now in
    let others : List ℕ = others_text f c.in-Some.others.now in
    let none = pending_none c.args.out.now c.args.at (list_text (map f c.args.bytes.now)) c.requires in
    let one = pending_step (codes "[") (first ++ (others ++ codes "]")) (list_first f c.args.bytes.now c.in-Some.others.now c.in-Some.first.now c.in-Some.ensures.cases.0) none c.in_ok-start.ensures in
    let two = pending_step first (others ++ codes "]") refl one c.in_ok-one.ensures in
    let three = pending_step others (codes "]") refl two c.in_ok-all.ensures in
    three.goes c.put-2.result c.put-2.new.out c.put-2.ensures
