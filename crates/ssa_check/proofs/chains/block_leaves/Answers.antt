use Rattle.std.proofs.Common.{◌≡◌, ℕ, ◌≤◌, ◌<◌, true, List, filter, find, length, sym, ap, ◌∙◌, subst, arith}
use Rattle.std.specs.List.{list_any}
use Rattle.std.specs.Option.{option_map}
use Rattle.std.proofs.lemmas.Bool.{eqb-true}
use Rattle.ssa_check.specs.tables.ChainLinks.{chain_end, leaves_by, links_of}
use Rattle.ssa_check.specs.tables.ChainTables.{LeavesOf}
use Rattle.ssa_ir.specs.declared.func.Value.{Value}
use Rattle.ssa_ir.specs.WellFormed.{WellFormedFunc}
use Rattle.ssa_ir.specs.MemoryChains.{begins_memory, has_definer, is_definer, is_memory_phi}
use Rattle.ssa_check.proofs.ChainWalkLemmas.{leaves_chain, leaves_first, some_there}
use Rattle.ssa_check.proofs.chains.block_leaves.Goals as goal

abbrev phis_in : List Value → ℕ
phis_in values = length (filter is_memory_phi values)

pub returns-then-is_empty : goal.returns-then-is_empty
returns-then-is_empty c =
    let f = c.args.tables.now in
    let b = c.args.block.now in
    let values = c.as_slice-values.ensures in
    let has : has_definer b ≡ true
    = sym (c.has_definer.ensures ∙ ap (λ vs. list_any is_definer vs) values) ∙ c.if-not-has_definer.false in
    let phi : phis_in b.values ≤ 1 =
    omega (arith, c.if-memory_phis-gt1.false, c.memory_phis.ensures, ap phis_in values) in
    let none : length c.in_ok-found.found.items ≡ 0
    = omega (
      arith,
      c.in_ok-found.found.ok,
      eqb-true c.in_ok-found.found.len 0 (sym c.is_empty.ensures ∙ c.if-is_empty.true),
    ) in
    let found : c.in_ok-found.found.items ≡ links_of f b.values = c.in_ok-found.ensures ∙ ap (links_of f) values in
    let first = c.first_memory.ensures ∙ ap (λ vs. option_map (λ v. v.id) (find begins_memory vs)) values in
    subst (λ l. LeavesOf f b l) (sym (c.leaves.ensures ∙ ap leaves_by first))
    (leaves_first f b has phi (sym (ap length found) ∙ none))

pub returns : goal.returns
returns c =
    let f = c.args.tables.now in
    let well : WellFormedFunc f =
    subst WellFormedFunc c.func-well_formed.ensures.func c.func-well_formed.ensures.well_formed in
    let b = c.args.block.now in
    let values = c.as_slice-values.ensures in
    let has : has_definer b ≡ true
    = sym (c.has_definer.ensures ∙ ap (λ vs. list_any is_definer vs) values) ∙ c.if-not-has_definer.false in
    let phi : phis_in b.values ≤ 1 =
    omega (arith, c.if-memory_phis-gt1.false, c.memory_phis.ensures, ap phis_in values) in
    let some : 0 < length c.in_ok-found.found.items
    = omega (
      arith,
      c.in_ok-found.found.ok,
      some_there c.in_ok-found.found.len (sym c.is_empty.ensures ∙ c.if-is_empty.false),
    ) in
    let found : c.in_ok-found.found.items ≡ links_of f b.values = c.in_ok-found.ensures ∙ ap (links_of f) values in
    let last : c.in_ok-chain_end.field-0 ≡ chain_end (links_of f b.values)
    = c.in_ok-chain_end.ensures ∙ ap chain_end (c.as_slice.ensures.value ∙ found) in
    subst (λ l. LeavesOf f b l) (sym (c.leaves-2.ensures ∙ ap leaves_by last))
    (leaves_chain f well b c.requires.of_block has phi (omega (arith, some, ap length found)))
