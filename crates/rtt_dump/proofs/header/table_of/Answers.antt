use Rattle.std.proofs.Common.{◌≡◌, ◌∙◌, [], length, sym, ap, arith}
use Rattle.std.proofs.lemmas.Bool.{eq-eqb, le-leb, lt-leb, ne_eqb}
use Rattle.byte_images.specs.Elf.{class_of, header_len}
use Rattle.rtt_dump.specs.Elf.{entry_len, header, header_in}
use Rattle.rtt_dump.specs.Flaws.{has_class, is_little, has_header, is_core, has_entry_len, has_program_headers}
use Rattle.byte_images.specs.declared.elf.Class.{Class}
use Rattle.rtt_dump.specs.declared.elf.Header.{Header}
use Rattle.rtt_dump.proofs.HeaderLemmas.{behind_class, behind_entry_len, behind_header, behind_kind, behind_order, flaw_stop, past_all, past_class, past_entry_len, past_header, past_kind, past_order}
use Rattle.rtt_dump.proofs.header.table_of.Goals as goal

pub returns-then-not-has_class-clause-flaw : goal.returns-then-not-has_class-clause-flaw
returns-then-not-has_class-clause-flaw c =
    let file = c.args.file.now in
    let class = sym c.if-not-has_class.ensures.holds in
    flaw_stop file has_class behind_class class

pub returns-then-not-is_little-clause-flaw : goal.returns-then-not-is_little-clause-flaw
returns-then-not-is_little-clause-flaw c =
    let file = c.args.file.now in
    let class = sym c.if-not-has_class.ensures.holds in
    let little = sym c.if-not-is_little.ensures in
    past_class file class ∙ flaw_stop file is_little behind_order little

pub returns-then-file-header_len-clause-flaw : goal.returns-then-file-header_len-clause-flaw
returns-then-file-header_len-clause-flaw c =
    let file = c.args.file.now in
    let class = sym c.if-not-has_class.ensures.holds in
    let little = sym c.if-not-is_little.ensures in
    let len : c.header_len.result ≡ header_len (class_of file) = c.header_len.ensures ∙ ap header_len c.class_of-class.ensures in
    past_order file class little ∙ flaw_stop file has_header behind_header (lt-leb (header_len (class_of file)) (length file) (omega arith))

pub returns-then-header-ne-ET_CORE-clause-flaw : goal.returns-then-header-ne-ET_CORE-clause-flaw
returns-then-header-ne-ET_CORE-clause-flaw c =
    let file = c.args.file.now in
    let class = sym c.if-not-has_class.ensures.holds in
    let little = sym c.if-not-is_little.ensures in
    let len : c.header_len.result ≡ header_len (class_of file) = c.header_len.ensures ∙ ap header_len c.class_of-class.ensures in
    let whole = le-leb (header_len (class_of file)) (length file) (omega arith) in
    let found : c.header_in-header.result ≡ header file = c.header_in-header.ensures.value ∙ ap (λ (k : Class). header_in k file) c.class_of-class.ensures in
    let kind : c.header_in-header.result.kind ≡ (header file).kind = ap (λ (h : Header). h.kind) found in
    past_header file class little whole ∙ flaw_stop file is_core behind_kind (ne_eqb (header file).kind 4 (λ e. absurd (omega arith)))

pub returns-then-header-entry_len-clause-flaw : goal.returns-then-header-entry_len-clause-flaw
returns-then-header-entry_len-clause-flaw c =
    let file = c.args.file.now in
    let class = sym c.if-not-has_class.ensures.holds in
    let little = sym c.if-not-is_little.ensures in
    let len : c.header_len.result ≡ header_len (class_of file) = c.header_len.ensures ∙ ap header_len c.class_of-class.ensures in
    let whole = le-leb (header_len (class_of file)) (length file) (omega arith) in
    let found : c.header_in-header.result ≡ header file = c.header_in-header.ensures.value ∙ ap (λ (k : Class). header_in k file) c.class_of-class.ensures in
    let kind : c.header_in-header.result.kind ≡ (header file).kind = ap (λ (h : Header). h.kind) found in
    let core = eq-eqb (header file).kind 4 (omega arith) in
    let entry : c.header_in-header.result.entry_len ≡ (header file).entry_len = ap (λ (h : Header). h.entry_len) found in
    let size : c.entry_len.result ≡ entry_len (class_of file) = c.entry_len.ensures ∙ ap entry_len c.class_of-class.ensures in
    past_kind file class little whole core
    ∙ flaw_stop file has_entry_len behind_entry_len (ne_eqb (header file).entry_len (entry_len (class_of file)) (λ e. absurd (omega arith)))

pub returns-then-not-has_program_headers-clause-flaw : goal.returns-then-not-has_program_headers-clause-flaw
returns-then-not-has_program_headers-clause-flaw c =
    let file = c.args.file.now in
    let class = sym c.if-not-has_class.ensures.holds in
    let little = sym c.if-not-is_little.ensures in
    let len : c.header_len.result ≡ header_len (class_of file) = c.header_len.ensures ∙ ap header_len c.class_of-class.ensures in
    let whole = le-leb (header_len (class_of file)) (length file) (omega arith) in
    let found : c.header_in-header.result ≡ header file = c.header_in-header.ensures.value ∙ ap (λ (k : Class). header_in k file) c.class_of-class.ensures in
    let kind : c.header_in-header.result.kind ≡ (header file).kind = ap (λ (h : Header). h.kind) found in
    let core = eq-eqb (header file).kind 4 (omega arith) in
    let entry : c.header_in-header.result.entry_len ≡ (header file).entry_len = ap (λ (h : Header). h.entry_len) found in
    let size : c.entry_len.result ≡ entry_len (class_of file) = c.entry_len.ensures ∙ ap entry_len c.class_of-class.ensures in
    let same = eq-eqb (header file).entry_len (entry_len (class_of file)) (omega arith) in
    past_entry_len file class little whole core same ∙ flaw_stop file has_program_headers [] (sym c.if-not-has_program_headers.ensures)

pub returns-clause-passes : goal.returns-clause-passes
returns-clause-passes c =
    let file = c.args.file.now in
    let class = sym c.if-not-has_class.ensures.holds in
    let little = sym c.if-not-is_little.ensures in
    let len : c.header_len.result ≡ header_len (class_of file) = c.header_len.ensures ∙ ap header_len c.class_of-class.ensures in
    let whole = le-leb (header_len (class_of file)) (length file) (omega arith) in
    let found : c.header_in-header.result ≡ header file = c.header_in-header.ensures.value ∙ ap (λ (k : Class). header_in k file) c.class_of-class.ensures in
    let kind : c.header_in-header.result.kind ≡ (header file).kind = ap (λ (h : Header). h.kind) found in
    let core = eq-eqb (header file).kind 4 (omega arith) in
    let entry : c.header_in-header.result.entry_len ≡ (header file).entry_len = ap (λ (h : Header). h.entry_len) found in
    let size : c.entry_len.result ≡ entry_len (class_of file) = c.entry_len.ensures ∙ ap entry_len c.class_of-class.ensures in
    let same = eq-eqb (header file).entry_len (entry_len (class_of file)) (omega arith) in
    past_all file class little whole core same (sym c.if-not-has_program_headers.ensures)
