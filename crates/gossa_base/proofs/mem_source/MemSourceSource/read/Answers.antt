use Rattle.std.proofs.Common.{◌≡◌, ◌-◌, min, length, arith, ◌∙◌, sym, ap}
use Rattle.std.proofs.lemmas.List.{length-take, length-drop}
use Rattle.gossa_base.proofs.WholeLemmas.{moved, at_end}
use Rattle.gossa_base.proofs.mem_source.MemSourceSource.read.Goals as goal

pub returns-clause-bytes : goal.returns-clause-bytes
returns-clause-bytes c =
    let bytes = c.self.inside.bytes.items in
    let at = c.self.inside.at in
    let n = c.min-n.result in
    let count : n ≡ min (min c.self.inside.piece (length c.args.buf.now)) (length bytes - at) =
    grind (arith, length-take, length-drop, c.min-n.ensures, c.min.ensures) in
    let left = moved n at bytes c.args.buf.now c.copy_from_slice.new.self (cc) (omega arith) in (
      ap (λ s. s.left) (sym c.self.view_is) ∙ left,
      λ none _. at_end n at (length c.args.buf.now) c.self.inside.piece
          bytes count none (omega arith) (omega arith),
    )
