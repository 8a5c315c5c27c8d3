-- What a compiled text is, from what reading, judging, placing and printing give.
use Rattle.std.proofs.Common.{◌≡◌, ℕ, ◌≤◌, List, [], ◌∷◌, map, Some, slice_get, refl, sym, ap, subst, ◌∙◌}
use Rattle.std.specs.List.{All}
use Rattle.std.specs.Option.{option_map}
use Rattle.std.proofs.lemmas.Option.{slice_get_within, get_or_from_slice_get, slice_get-map}
use Rattle.ssa_ir.specs.declared.func.Func.{Func}
use Rattle.ssa_ir.specs.declared.func.SsaUnit.{SsaUnit}
use Rattle.listing.specs.declared.code.Listing.{Listing}
use Rattle.listing.specs.SameShow.{SameShow, ShowsAs, callees_of}
use Rattle.gossa_core.specs.Compiled.{listings_of}
use Rattle.sum_compile.specs.Narrow.{Narrow}
use Rattle.sum_compile.specs.Plain.{plain_listing}
use Rattle.sum_compile.proofs.PlainRun.{plain_shows}

-- the listings have the signatures of the functions
signatures_are : (regs : ℕ) (funcs : List Func)
    → map (λ g. g.code.sig) (map (plain_listing regs) funcs) ≡ map (λ f. f.sig) funcs
signatures_are regs [] = refl
signatures_are regs (f ∷ funcs) = ap (λ l. f.sig ∷ l) (signatures_are regs funcs)

-- and one number of registers
registers_are : (regs : ℕ) (funcs : List Func)
    → map (λ g. g.code.regs) (map (plain_listing regs) funcs) ≡ map (λ f. regs) funcs
registers_are regs [] = refl
registers_are regs (f ∷ funcs) = ap (λ l. regs ∷ l) (registers_are regs funcs)

-- function i is narrow
pub narrow_at : (funcs : List Func) (i : ℕ) (f : Func) → All Narrow funcs → slice_get funcs i ≡ Some f → Narrow f
narrow_at funcs i f all at =
    subst Narrow (get_or_from_slice_get funcs i f f at) (all i f (slice_get_within funcs i f at))

-- and its listing is that of the plain allocation
listing_at : (regs : ℕ) (funcs : List Func) (i : ℕ) (f : Func) (g : Listing) → slice_get funcs i ≡ Some f
    → slice_get (map (plain_listing regs) funcs) i ≡ Some g → plain_listing regs f ≡ g
listing_at regs funcs i f g at listed =
    let both : Some (plain_listing regs f) ≡ Some g =
    sym (ap (option_map (plain_listing regs)) at) ∙ sym (slice_get-map (plain_listing regs) funcs i) ∙ listed in
    cc

-- the plain allocation's listings show what a unit of narrow functions shows
pub same_show : (u : SsaUnit) (regs : ℕ) → All Narrow u.funcs → 16 ≤ regs → SameShow u (listings_of regs u)
same_show u regs all many = record {
  regs = regs;
  signatures = refl;
  functions = signatures_are regs u.funcs;
  one_machine = registers_are regs u.funcs;
  shows = λ i f g at listed.
      subst (λ l. ShowsAs (callees_of u) f l) (listing_at regs u.funcs i f g at listed)
      (plain_shows (callees_of u) f regs (narrow_at u.funcs i f all at) many);
}
