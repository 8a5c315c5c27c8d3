-- The first difference of a function's edges in order is the lowest block at which the check Edges fails.
use Rattle.std.proofs.Common.{◌≡◌, ◌≢◌, ℕ, ◌<◌, ◌⊎◌, inl, inr, Bool, true, false, not, ◌&&◌, List, [], ◌∷◌, length}
use Rattle.std.proofs.Common.{get_or, Option, None, Some, refl, subst, sym, ap, ◌∙◌, All, Any, IsPermutation, IsSorted}
use Rattle.std.proofs.Common.{arith}
use Rattle.std.specs.List.{list_all}
use Rattle.std.proofs.lemmas.Bool.{eqb-false, ne_eqb, not-true, not_from_false}
use Rattle.std.proofs.lemmas.List.Folds.{list_all_at}
use Rattle.ssa_ir.specs.declared.func.Block.{Block}
use Rattle.ssa_ir.specs.declared.func.Func.{Func}
use Rattle.ssa_ir.specs.WellFormed.{BlockIsThere, WellFormedFunc}
use Rattle.ssa_check.specs.declared.edges.Edge.{Edge}
use Rattle.ssa_check.specs.BlockChecks.{agree, edges_hold, times}
use Rattle.ssa_check.specs.tables.EdgeTables.{edge_cmp, all_outgoing, all_incoming, first_difference}
use Rattle.ssa_check.specs.tables.Lowest.{lowest_block}
use Rattle.ssa_check.proofs.EdgeCountLemmas.{Apart, some_or_none, unsplit_of, times_by_number, none_named, outgoing_of}
use Rattle.ssa_check.proofs.EdgeCountLemmas.{incoming_of, no_outgoing, no_incoming}
use Rattle.ssa_check.proofs.EdgeOrderLemmas.{count, count_moved, ascends, Differs, lowest_difference}
use Rattle.graphs.proofs.AnyLemmas.{any_here, any_later}
use Rattle.ssa_check.proofs.LowestLemmas.{IsLowest, same_lowest}
use Rattle.ssa_check.proofs.PlaceLemmas.{BlockCounts, blocks_lowest}

-- numbers have one lowest
lowest_once : (r s : Option ℕ) (Is : ℕ → Type 0) → IsLowest r Is → IsLowest s Is → r ≡ s
lowest_once None None Is h g = refl
lowest_once None (Some n) Is h g = absurd (h n g.0)
lowest_once (Some m) None Is h g = absurd (g m h.0)
lowest_once (Some m) (Some n) Is h g = ap (λ k. Some k) (omega (arith, h.1 n g.0, g.1 m h.0))

some_fails : {X : Type 0} (p : X → Bool) (xs : List X) → list_all p xs ≡ false → Any (λ x. p x ≡ false) xs
some_fails p [] h = cc
some_fails {X} p (x ∷ xs) h = go (p x) refl h (some_fails p xs)
  where
    go : (t : Bool) → p x ≡ t → (t && list_all p xs) ≡ false → (list_all p xs ≡ false → Any (λ y. p y ≡ false) xs)
        → Any (λ y. p y ≡ false) (x ∷ xs)
    go false here h later = any_here x xs here
    go true holds h later = any_later x xs (later h)

module _ (f : Func) (whole : WellFormedFunc f) where
  -- blocks agree where their edge is counted alike
  module _ (s t : Block) (j k : ℕ) (within_s : j < length f.blocks) (is_s : get_or f.blocks j s ≡ s)
      (within_t : k < length f.blocks) (is_t : get_or f.blocks k t ≡ t) where
    abbrev edge : Edge
    edge = record { target = t.id.n; source = s.id.n }

    succs_counted : times t.id s.succs ≡ count edge (all_outgoing f)
    succs_counted =
        times_by_number f whole t.id (unsplit_of f whole t k within_t is_t) s.succs
        (subst (λ (b : Block). All (BlockIsThere f) b.succs) is_s (whole.succs_there j s within_s))
        ∙ sym (outgoing_of f whole edge s j within_s is_s refl)

    preds_counted : times s.id t.preds ≡ count edge (all_incoming f)
    preds_counted =
        times_by_number f whole s.id (unsplit_of f whole s j within_s is_s) t.preds
        (subst (λ (b : Block). All (BlockIsThere f) b.preds) is_t (whole.preds_there k t within_t))
        ∙ sym (incoming_of f whole edge t k within_t is_t refl)

    differ_where_apart : agree s t ≡ false → count edge (all_outgoing f) ≢ count edge (all_incoming f)
    differ_where_apart apart same =
        eqb-false (times s.id t.preds) (times t.id s.succs) apart (preds_counted ∙ sym same ∙ sym succs_counted)

    apart_where_differ : count edge (all_outgoing f) ≢ count edge (all_incoming f) → agree s t ≡ false
    apart_where_differ differ =
        ne_eqb (times s.id t.preds) (times t.id s.succs) (λ same. differ (sym succs_counted ∙ sym same ∙ preds_counted))

  -- a block of a failing number fails
  fails_there : (k : ℕ) → Differs (all_outgoing f) (all_incoming f) k
      → BlockCounts (λ b. not (edges_hold f b)) f.blocks k
  fails_there k (e, at, differ) = go (some_or_none e.source f.blocks) (some_or_none e.target f.blocks)
    where
      go : Any (λ (b : Block). e.source ≡ b.id.n) f.blocks ⊎ Apart e.source f.blocks
          → Any (λ (b : Block). e.target ≡ b.id.n) f.blocks ⊎ Apart e.target f.blocks
          → BlockCounts (λ b. not (edges_hold f b)) f.blocks k
      go (inr no_source) (inr no_target) =
          absurd (differ (no_outgoing f whole e no_source ∙ sym (no_incoming f whole e no_target)))
      go (inl (j, s, within, is, named)) (inr no_target) =
          absurd (differ (outgoing_of f whole e s j within is named
          ∙ none_named f whole e.target no_target s.succs
          (subst (λ (b : Block). All (BlockIsThere f) b.succs) is (whole.succs_there j s within))
          ∙ sym (no_incoming f whole e no_target)))
      go (inr no_source) (inl (i, t, within, is, named)) =
          absurd (differ (no_outgoing f whole e no_source
          ∙ sym (incoming_of f whole e t i within is named
          ∙ none_named f whole e.source no_source t.preds
          (subst (λ (b : Block). All (BlockIsThere f) b.preds) is (whole.preds_there i t within)))))
      go (inl (j, s, within_s, is_s, named_s)) (inl (i, t, within_t, is_t, named_t)) =
          let same : e ≡ edge s t j i within_s is_s within_t is_t =
          λ x. record { target = named_t x; source = named_s x } in
          let apart : agree s t ≡ false =
          apart_where_differ s t j i within_s is_s within_t is_t
          (subst (λ x. count x (all_outgoing f) ≢ count x (all_incoming f)) same differ) in
          let fails : edges_hold f t ≡ false =
          list_all_at (λ x. agree x t) f.blocks j s within_s (ap (λ (x : Block). agree x t) is_s ∙ apart) in
          (i, t, within_t, is_t, (not_from_false (edges_hold f t) fails, sym at ∙ named_t))

  fails_back : (k : ℕ) → BlockCounts (λ b. not (edges_hold f b)) f.blocks k
      → Differs (all_outgoing f) (all_incoming f) k
  fails_back k (i, t, within_t, is_t, fails) =
      go (some_fails (λ s. agree s t) f.blocks (not-true (edges_hold f t) fails.0))
    where
      go : Any (λ s. agree s t ≡ false) f.blocks → Differs (all_outgoing f) (all_incoming f) k
      go (j, s, within_s, is_s, apart) = (
        record { target = t.id.n; source = s.id.n },
        sym fails.1,
        differ_where_apart s t j i within_s is_s within_t
            is_t apart,
      )

  -- the lists in order give the lowest block that fails
  pub edges_lowest : (left right : List Edge) → IsPermutation (all_outgoing f) left → IsSorted edge_cmp left
      → IsPermutation (all_incoming f) right → IsSorted edge_cmp right
      → first_difference left right ≡ lowest_block (λ b. not (edges_hold f b)) f
  edges_lowest left right moved_l sorted_l moved_r sorted_r =
      lowest_once (first_difference left right) (lowest_block (λ b. not (edges_hold f b)) f)
      (BlockCounts (λ b. not (edges_hold f b)) f.blocks)
      (same_lowest (first_difference left right) (Differs left right) (BlockCounts (λ b. not (edges_hold f b)) f.blocks)
      (λ k differs. fails_there k (unmoved k differs)) (λ k counts. moved k (fails_back k counts))
      (lowest_difference left right (ascends left sorted_l) (ascends right sorted_r)))
      (blocks_lowest (λ b. not (edges_hold f b)) f)
    where
      unmoved : (k : ℕ) → Differs left right k → Differs (all_outgoing f) (all_incoming f) k
      unmoved k (e, at, differ) = (
        e,
        at,
        λ same. differ (count_moved e (all_outgoing f) left moved_l ∙ same
            ∙ sym (count_moved e (all_incoming f) right moved_r)),
      )

      moved : (k : ℕ) → Differs (all_outgoing f) (all_incoming f) k → Differs left right k
      moved k (e, at, differ) = (
        e,
        at,
        λ same. differ (sym (count_moved e (all_outgoing f) left moved_l) ∙ same
            ∙ count_moved e (all_incoming f) right moved_r),
      )
