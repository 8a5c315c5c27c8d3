use Rattle.std.proofs.Common.{◌≡◌, ◌∙◌, ℕ, sym, ap, subst, length, map, replicate, None, List, [], ◌∷◌, ◌++◌}
use Rattle.std.specs.List.{count_by}
use Rattle.gossa_base.specs.declared.ids.ValueId.{ValueId}
use Rattle.ssa_ir.specs.declared.func.Block.{Block}
use Rattle.ssa_ir.specs.declared.func.Value.{Value}
use Rattle.ssa_ir.specs.declared.types.Scalar.{Scalar}
use Rattle.ssa_ir.specs.FirstOrder.{first_order}
use Rattle.listing.specs.CodeFacts.{CodeParts, IsCode}
use Rattle.listing.specs.declared.line.Line.{Line}
use Rattle.listing.specs.declared.line.Place.{Place}
use Rattle.sum_compile.specs.tables.Numbered.{NumberedFrom}
use Rattle.sum_compile.specs.tables.Parameters.{held_from, noted_all}
use Rattle.sum_compile.specs.tables.Places.{place_in}
use Rattle.sum_compile.specs.Plain.{has_home, place_of, parameters_from, lines_in_order, block_lines, home_count}
use Rattle.sum_compile.specs.Plain.{plain_listing}
use Rattle.sum_compile.proofs.ParameterLemmas.{parameters_found}
use Rattle.sum_compile.proofs.NumberedLemmas.{table_places}
use Rattle.sum_compile.proofs.plain.allocate_block.Goals as goal

-- the lines of a block by these places and registers are those of the plain allocation
emitted : (block : Block) (params : List Scalar) (places : List Place) (held : List (ℕ × ValueId))
    (front lines : List Line) (xs ys : List Value) (n : ℕ)
    → NumberedFrom 1 block.values → first_order block.values ≡ block.values
    → xs ≡ block.values → ys ≡ block.values → n ≡ length params
    → places ≡ map (λ v. place_of xs v.id) xs
    → held ≡ held_from 0 (noted_all (replicate n None) ys) → front ≡ []
    → lines ≡ front ++ lines_in_order (place_in places) held block.values block
    → lines ≡ block_lines (place_of block.values) (parameters_from block.values 0 params) block
emitted block params places held front lines xs ys n numbered order same_xs same_ys same_n placed noted empty made =
    made ∙ ap (λ l. l ++ lines_in_order (place_in places) held block.values block) empty
    ∙ ap (λ vs. lines_in_order (place_in places) held vs block) (sym order)
    ∙ ap (λ at. block_lines at held block)
    (ap place_in (placed ∙ ap (λ vs. map (λ v. place_of vs v.id) vs) same_xs) ∙ table_places block.values numbered)
    ∙ ap (λ h. block_lines (place_of block.values) h block)
    (noted ∙ ap (λ vs. held_from 0 (noted_all (replicate n None) vs)) same_ys
    ∙ ap (λ k. held_from 0 (noted_all (replicate k None) block.values)) same_n
    ∙ parameters_found block.values params)

pub invariant_of-result : goal.invariant_of-result
invariant_of-result c =
    let block = c.args.block.now in
    let made : CodeParts =
    record {
      sig = c.in_ok-sig.sig;
      regs = c.args.regs;
      syms = c.new.result;
      lines = c.from_vec.result;
      out = 0;
      arg_words = 0;
    } in
    let sig : c.in_ok-sig.sig ≡ c.args.sig.now = c.in_ok-sig.ensures in
    let lines =
    emitted block c.args.sig.now.params c.in_ok-places.places.places c.in_ok-held.held _ c.from_vec.result _ _ _
    c.requires.numbered c.requires.in_order c.as_slice.ensures c.as_slice-2.ensures c.len.ensures
    c.in_ok-places.ensures.places c.in_ok-held.ensures c.new-lines.ensures.items
    (c.from_vec.ensures ∙ c.in_ok-emit_block.ensures) in
    let same : made ≡ (plain_listing c.args.regs (record { sig = c.args.sig.now; blocks = block ∷ [] })).code =
    λ i. record { sig = sig i; regs = c.args.regs; syms = c.new.ensures i; lines = lines i; out = 0; arg_words = 0 } in
    subst IsCode (sym same) c.requires.facts

pub returns : goal.returns
returns c =
    let block = c.args.block.now in
    let sig : c.in_ok-sig.sig ≡ c.args.sig.now = c.in_ok-sig.ensures in
    let lines =
    emitted block c.args.sig.now.params c.in_ok-places.places.places c.in_ok-held.held _ c.from_vec.result _ _ _
    c.requires.numbered c.requires.in_order c.as_slice.ensures c.as_slice-2.ensures c.len.ensures
    c.in_ok-places.ensures.places c.in_ok-held.ensures c.new-lines.ensures.items
    (c.from_vec.ensures ∙ c.in_ok-emit_block.ensures) in
    let words : c.words.result ≡ home_count (block ∷ []) =
    c.words.ensures ∙ c.in_ok-places.ensures.words ∙ ap (count_by (λ v. has_home v.op)) c.as_slice.ensures in
    λ i. record {
      code =
          record { sig = sig i; regs = c.args.regs; syms = c.new.ensures i; lines = lines i; out = 0; arg_words = 0 };
      ptr = 0;
      scalar = words i;
      maps = c.new-2.ensures i;
    }
