use Rattle.std.proofs.Common.{◌≡◌, ◌∙◌, ◌-◌, sym, ap, Some, None, length, nat_eq, option_copied, option_map, position}
use Rattle.std.proofs.Common.{slice_get, arith, refl}
use Rattle.std.specs.Cmp.Lexicographic.{pointwise}
use Rattle.std.proofs.lemmas.Option.{slice_get_read}
use Rattle.ssa_ir.specs.declared.func.Func.{Func}
use Rattle.ssa_tables.specs.SignatureTable.{names_of}
use Rattle.ssa_tables.proofs.SignatureLemmas.{no_sig, sig_in_front, sig_behind}
use Rattle.gossa_base.proofs.ListPlaces.{item_copied}
use Rattle.ssa_tables.proofs.signatures.SignatureTable.sig.Goals as goal

pub returns-in_err-index : goal.returns-in_err-index
returns-in_err-index c =
    let u = c.args.unit.now in
    let name = c.args.name.now in
    let keys : c.self.inside.names.keys ≡ names_of u = c.self.view_is ∙ c.requires in
    let none : position (pointwise nat_eq name) (names_of u) ≡ None
    = ap (position (pointwise nat_eq name)) (sym keys) ∙ sym c.get_index_of.ensures.index ∙ c.in_err-index.was in
    ap option_copied c.from_residual.ensures ∙ sym (no_sig u name none)

pub returns-then-index-sigs : goal.returns-then-index-sigs
returns-then-index-sigs c =
    let u = c.args.unit.now in
    let name = c.args.name.now in
    let i = c.in_ok-index.index in
    let keys : c.self.inside.names.keys ≡ names_of u = c.self.view_is ∙ c.requires in
    let some : position (pointwise nat_eq name) (names_of u) ≡ Some i
    = ap (position (pointwise nat_eq name)) (sym keys) ∙ sym c.get_index_of.ensures.index ∙ c.in_ok-index.was in
    let sigs = c.as_slice-sigs.result.now in
    let read : slice_get sigs i ≡ Some c.index-sigs-index.result
    = slice_get_read sigs (length sigs) i c.index-sigs-index.result refl c.if-index-sigs.true c.index-sigs-index.is in
    sym (sig_in_front u name i some (omega (arith, c.if-index-sigs.true, ap length c.as_slice-sigs.ensures))
    ∙ ap (λ l. slice_get l i) (sym c.as_slice-sigs.ensures)
    ∙ read)

pub returns : goal.returns
returns c =
    let u = c.args.unit.now in
    let name = c.args.name.now in
    let i = c.in_ok-index.index in
    let keys : c.self.inside.names.keys ≡ names_of u = c.self.view_is ∙ c.requires in
    let some : position (pointwise nat_eq name) (names_of u) ≡ Some i
    = ap (position (pointwise nat_eq name)) (sym keys) ∙ sym c.get_index_of.ensures.index ∙ c.in_ok-index.was in
    let sigs = c.as_slice-sigs.ensures in
    let behind = sig_behind u name i some (omega (arith, c.if-index-sigs.false, ap length sigs)) in
    let place = i - length c.as_slice-sigs.result.now in
    let copied = item_copied c.as_slice.result.now place c.get.result c.get.ensures.lookup in
    let there : slice_get u.funcs (i - length u.sigs) ≡ Some c.in_ok-func.func.now
    = (λ j. slice_get (sym c.as_slice.ensures j) (i - length (sym sigs j))) ∙ sym copied
    ∙ ap option_copied c.in_ok-func.was in
    sym (behind ∙ ap (option_map (λ (f : Func). f.sig)) there)
