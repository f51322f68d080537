use Rattle.std.proofs.Common.{◌++◌, [], List, ℕ, Option, Ok, sym, subst}
use Rattle.std.proofs.lemmas.List.{append-nil}
use Rattle.byteorder.specs.Endian.{little_bytes}
use Rattle.defmt_encode.proofs.Chain.{chain}
use Rattle.defmt_encode.specs.Out.{Wrote}
use Rattle.defmt_encode.specs.Placed.{place_bytes}
use Rattle.defmt_macros.specs.Frames.{head_of}
use Rattle.defmt_macros.proofs.putting.put_head.Goals as goal

pub returns-in-Some : goal.returns-in-Some
returns-in-Some c =
    let index : List ℕ = little_bytes 2 c.args.index in
    let place : List ℕ = place_bytes c.args.place in
    let stamp : List ℕ = little_bytes 8 c.in-Some.number in
    subst (λ (s : Option ℕ). Wrote c.args.buf.now c.put_fitting.new.buf 0 c.put_fitting.result (head_of c.args.index c.args.place s)) (sym c.in-Some.is)
    (chain c.args.buf.now c.put_fitting-at.new.buf c.put_fitting.new.buf 0 c.put_fitting-at.result (Ok c.put_fitting.result) index (place ++ stamp) c.put_fitting-at.ensures
    (chain c.put_fitting-at.new.buf c.put_place-behind.new.buf c.put_fitting.new.buf c.put_fitting-at.result c.put_place-behind.result (Ok c.put_fitting.result) place stamp c.put_place-behind.ensures c.put_fitting.ensures))

pub returns-in-None : goal.returns-in-None
returns-in-None c =
    let index : List ℕ = little_bytes 2 c.args.index in
    let place : List ℕ = place_bytes c.args.place in
    subst (λ (s : Option ℕ). Wrote c.args.buf.now c.put_place-behind.new.buf 0 c.put_place-behind.result (head_of c.args.index c.args.place s)) (sym c.in-None.is)
    (chain c.args.buf.now c.put_fitting-at.new.buf c.put_place-behind.new.buf 0 c.put_fitting-at.result (Ok c.put_place-behind.result) index (place ++ []) c.put_fitting-at.ensures
    (subst (λ (bytes : List ℕ). Wrote c.put_fitting-at.new.buf c.put_place-behind.new.buf c.put_fitting-at.result c.put_place-behind.result bytes) (sym (append-nil place)) c.put_place-behind.ensures))
