use Rattle.std.proofs.Common.{◌≡◌, ◌∙◌, ◌<◌, ◌+◌, ◌++◌, ℕ, List, [], ◌∷◌, length, take, get_or, flat_map, ap, sym, arith}
use Rattle.std.proofs.lemmas.Grind.{flat_map-append}
use Rattle.std.proofs.lemmas.List.{append-nil, take_more}
use Rattle.defmt_print.specs.Groups.{writer_lines}
use Rattle.defmt_print.proofs.printing.group_lines.Goals as goal

-- the lines of one writer more
one_writer : (f : ℕ → List ℕ) (writers : List ℕ) (place : ℕ) (now after : List ℕ) → place < length writers → now ≡ flat_map f (take place writers)
    → after ≡ now ++ f (get_or writers place 0) → after ≡ flat_map f (take (place + 1) writers)
one_writer f writers place now after within now_is after_is =
    let writer : ℕ = get_or writers place 0 in
    let more : flat_map f (take (place + 1) writers) ≡ flat_map f (take place writers) ++ f writer =
    ap (flat_map f) (take_more writers place 0 within) ∙ flat_map-append f (take place writers) (writer ∷ [])
    ∙ ap (λ (l : List ℕ). flat_map f (take place writers) ++ l) (append-nil (f writer)) in
    after_is ∙ ap (λ (l : List ℕ). l ++ f writer) now_is ∙ sym more

pub loop-writer-preserved : goal.loop-writer-preserved
loop-writer-preserved c =
    one_writer (λ (writer : ℕ). writer_lines c.args.style.now c.args.script.now writer 0 c.args.tape.now) (0 ∷ 1 ∷ 2 ∷ 3 ∷ 4 ∷ 5 ∷ 6 ∷ 7 ∷ []) c.loop-writer.writer-index
    c.loop-writer.out.items c.add_writer.new.out.items (omega (arith, c.loop-writer-test.true)) c.loop-writer.invariant c.in_ok-add_writer.ensures
