-- The bytes of the blocks that were read ahead.
use Rattle.std.proofs.Common.{◌≡◌, ◌≤◌, ◌+◌, ℕ, List, [], ◌∷◌, ◌++◌, length, take, sym, ◌∙◌, ap, append_assoc, arith, length-append, length-take}
use Rattle.std.specs.Prelude.{Option, Some, None}
use Rattle.std.specs.Io.KnownBytes.{Consumes, prepend_known}
use Rattle.std.proofs.lemmas.List.{append-nil}
use Rattle.defmt_blocks.specs.Queue.{bytes_in}
use Rattle.defmt_blocks.specs.declared.part.Part.{Part}

-- one block more
pub bytes_behind : (parts : List Part) (part : Part) → bytes_in (parts ++ part ∷ []) ≡ bytes_in parts ++ take part.count part.buf.items
bytes_behind [] part = append-nil (take part.count part.buf.items)
bytes_behind (first ∷ parts) part =
    ap (λ (l : List ℕ). take first.count first.buf.items ++ l) (bytes_behind parts part)
    ∙ sym (append_assoc (take first.count first.buf.items) (bytes_in parts) (take part.count part.buf.items))

pub size_behind : (parts : List Part) (part : Part) → part.count ≤ length part.buf.items → length (bytes_in (parts ++ part ∷ [])) ≡ length (bytes_in parts) + part.count
size_behind parts part within =
    ap length (bytes_behind parts part) ∙ length-append (bytes_in parts) (take part.count part.buf.items)
    ∙ (let e : length (bytes_in parts) + length (take part.count part.buf.items) ≡ length (bytes_in parts) + part.count = omega (arith, length-take part.count part.buf.items, within) in e)

pub size_first : (part : Part) (parts : List Part) → part.count ≤ length part.buf.items → length (bytes_in (part ∷ parts)) ≡ part.count + length (bytes_in parts)
size_first part parts within =
    length-append (take part.count part.buf.items) (bytes_in parts)
    ∙ (let e : length (take part.count part.buf.items) + length (bytes_in parts) ≡ part.count + length (bytes_in parts) = omega (arith, length-take part.count part.buf.items, within) in e)

-- bytes that are read behind those that were read ahead
pub read_behind : (a b : Option (List ℕ)) (ahead bytes : List ℕ) → Consumes a b bytes → Consumes (prepend_known ahead a) (prepend_known (ahead ++ bytes) b) []
read_behind None b ahead bytes took = tt
read_behind (Some xs) None ahead bytes took = absurd took
read_behind (Some xs) (Some ys) ahead bytes took = ap (λ (l : List ℕ). ahead ++ l) took ∙ sym (append_assoc ahead bytes ys)

-- the first of them are given
pub gives_first : (a : Option (List ℕ)) (all bytes rest : List ℕ) → all ≡ bytes ++ rest → Consumes (prepend_known all a) (prepend_known rest a) bytes
gives_first None all bytes rest is = tt
gives_first (Some xs) all bytes rest is = ap (λ (l : List ℕ). l ++ xs) is ∙ append_assoc bytes rest xs
