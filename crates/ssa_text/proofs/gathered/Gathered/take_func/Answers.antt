use Rattle.std.proofs.Common.{List, [], ◌++◌, map, sym, ap, ◌∙◌}
use Rattle.std.specs.List.{flat_map}
use Rattle.gossa_base.specs.declared.ids.BlockId.{BlockId}
use Rattle.ssa_ir.specs.declared.func.Block.{Block}
use Rattle.ssa_ir.specs.declared.func.Value.{Value}
use Rattle.ssa_text.specs.Reading.{with_whole}
use Rattle.ssa_text.proofs.TakeLemmas.{so_far, begun, func_taken}
use Rattle.ssa_text.proofs.gathered.Gathered.take_func.Goals as goal

-- the table of names has the new name last, and the tables of numbers are empty
pub returns : goal.returns
returns c =
    let before = c.args.self.now in
    let sig = c.args.sig in
    let whole = c.in_ok-put_whole.ensures ∙ ap (with_whole before.funcs) c.take.ensures.value in
    let read = so_far before.sigs whole (begun sig c.new.ensures) c.new-2.ensures c.unknown_line-unknown.ensures in
    let names =
    func_taken before.sigs before.funcs c.put_whole.new.funcs before.func sig c.new.result before.names
    c.put_name.new.names
    c.requires.tables.0 whole c.in_ok-put_name.ensures c.new.ensures in
    let no_blocks =
    ap (λ (bs : List Block). map (λ (id : BlockId). id.n) (map (λ (b : Block). b.id) bs ++ [])) (sym c.new.ensures) in
    let no_values =
    ap (λ (bs : List Block). map (λ (v : Value). v.id.0) (flat_map (λ (b : Block). b.values) bs ++ []))
    (sym c.new.ensures) in
    (read, (names, (λ e. cc), c.clear.ensures ∙ no_blocks, c.clear-2.ensures ∙ no_values))
