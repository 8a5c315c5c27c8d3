-- What changed between two memories: the one ascending list that finds each byte that differs.
use Rattle.std.proofs.Common.{◌≡◌, ℕ, Bool, true, false, cond, eqb, ◌||◌, ◌&&◌, List, [], ◌∷◌, ◌++◌, map, Option, None}
use Rattle.std.proofs.Common.{Some, is_some, refl, sym, ap, ◌∙◌}
use Rattle.std.specs.Prelude.{T}
use Rattle.std.specs.List.{list_any}
use Rattle.std.specs.Option.{unwrap_or}
use Rattle.std.specs.declared.cmp.Ordering.{Ordering}
use Rattle.std.specs.declared.cmp.Ordering.TheVariants.{Less, Equal, Greater}
use Rattle.std.specs.Ordering.{nat_cmp, is_lt, is_eq, eq_by_cmp}
use Rattle.std.proofs.lemmas.Cmp.{nat_cmp_total}
use Rattle.std.specs.FinMap as finite
use Rattle.std.specs.FinMap.{FinMap, nat_cmp-IsAntisymmetric}
use Rattle.std.specs.FinMap.Entries as entries
use Rattle.gossa_base.specs.Words.{low}
use Rattle.gossa_base.specs.Memory.{Memory, byte_at, changes_at, addresses_of, changed}

-- the byte now, where it differs
abbrev pub new_byte : Memory → Memory → ℕ → Option ℕ
new_byte before now q = cond (eqb (byte_at before q) (byte_at now q)) None (Some (byte_at now q))

is_equal : (r : Ordering) → is_eq r ≡ true → r ≡ Equal
is_equal Equal e = refl
is_equal Less e = cc
is_equal Greater e = cc

pub tied : (q a : ℕ) → eq_by_cmp nat_cmp q a ≡ true → q ≡ a
tied q a e = nat_cmp-IsAntisymmetric q a (is_equal (nat_cmp q a) e)

nothing : (b : Bool) (o : Option ℕ) → cond b o o ≡ o
nothing true o = refl
nothing false o = refl

-- what is found in changes at addresses is the new byte of an address among them
pub changes_found : (before now : Memory) (addresses : List ℕ) (q : ℕ)
    → entries.find nat_cmp q (changes_at before now addresses)
    ≡ cond (list_any (eq_by_cmp nat_cmp q) addresses) (new_byte before now q) None
changes_found before now [] q = refl
changes_found before now (a ∷ addresses) q =
    go (eq_by_cmp nat_cmp q a) (eqb (byte_at before a) (byte_at now a)) refl refl
    (changes_found before now addresses q)
  where
    any : Bool
    any = list_any (eq_by_cmp nat_cmp q) addresses

    rest : List (ℕ × ℕ)
    rest = changes_at before now addresses

    left : Bool → Option ℕ
    left b = entries.find nat_cmp q (cond b rest ((a, byte_at now a) ∷ rest))

    right : Bool → Option ℕ
    right b = cond (b || any) (new_byte before now q) None

    at : (b : Bool) → eq_by_cmp nat_cmp q a ≡ true → eqb (byte_at before a) (byte_at now a) ≡ b
        → new_byte before now q ≡ cond b None (Some (byte_at now a))
    at b t e = ap (new_byte before now) (tied q a t) ∙ ap (λ c. cond c None (Some (byte_at now a))) e

    go : (t e : Bool) → eq_by_cmp nat_cmp q a ≡ t → eqb (byte_at before a) (byte_at now a) ≡ e
        → entries.find nat_cmp q rest ≡ cond any (new_byte before now q) None
        → left (eqb (byte_at before a) (byte_at now a)) ≡ right (eq_by_cmp nat_cmp q a)
    go true true t e ih =
        ap left e ∙ ih ∙ ap (λ d. cond any d None) (at true t e) ∙ nothing any None
        ∙ sym (at true t e) ∙ sym (ap right t)
    go true false t e ih =
        ap left e ∙ ap (λ b. cond b (Some (byte_at now a)) (entries.find nat_cmp q rest)) t
        ∙ sym (at false t e) ∙ sym (ap right t)
    go false true t e ih = ap left e ∙ ih ∙ sym (ap right t)
    go false false t e ih =
        ap left e ∙ ap (λ b. cond b (Some (byte_at now a)) (entries.find nat_cmp q rest)) t ∙ ih ∙ sym (ap right t)

found_either : (q : ℕ) (xs ys : List (ℕ × ℕ))
    → is_some (entries.find nat_cmp q (xs ++ ys))
    ≡ (is_some (entries.find nat_cmp q xs) || is_some (entries.find nat_cmp q ys))
found_either q [] ys = refl
found_either q (x ∷ xs) ys = go (eq_by_cmp nat_cmp q x.0) (found_either q xs ys)
  where
    go : (b : Bool)
        → is_some (entries.find nat_cmp q (xs ++ ys))
        ≡ (is_some (entries.find nat_cmp q xs) || is_some (entries.find nat_cmp q ys))
        → is_some (cond b (Some x.1) (entries.find nat_cmp q (xs ++ ys)))
        ≡ (is_some (cond b (Some x.1) (entries.find nat_cmp q xs)) || is_some (entries.find nat_cmp q ys))
    go true ih = refl
    go false ih = ih

-- an address stands among those of two memories where either has a byte there
addresses_have : (before now : Memory) (q : ℕ)
    → list_any (eq_by_cmp nat_cmp q) (addresses_of before now)
    ≡ (is_some (finite.get before q) || is_some (finite.get now q))
addresses_have before now q =
    let xs = finite.entries before in
    let ys = finite.entries now in
    sym (finite.contains_key-keys (finite.from_entries {R = nat_cmp} (xs ++ ys)) q)
    ∙ ap is_some (finite.get-from_entries nat_cmp_total (xs ++ ys) q)
    ∙ found_either q xs ys
    ∙ ap (λ o. is_some o || is_some (entries.find nat_cmp q ys)) (sym (finite.get-entries before q))
    ∙ ap (λ o. is_some (finite.get before q) || is_some o) (sym (finite.get-entries now q))

differs : (a b : Option ℕ)
    → cond (is_some a || is_some b)
    (cond (eqb (low 8 (unwrap_or a 0)) (low 8 (unwrap_or b 0))) None (Some (low 8 (unwrap_or b 0)))) None
    ≡ cond (eqb (low 8 (unwrap_or a 0)) (low 8 (unwrap_or b 0))) None (Some (low 8 (unwrap_or b 0)))
differs None None = refl
differs None (Some y) = refl
differs (Some x) b = refl

-- what is found among the changes is the new byte
pub changed_found : (before now : Memory) (q : ℕ) → entries.find nat_cmp q (changed before now) ≡ new_byte before now q
changed_found before now q =
    changes_found before now (addresses_of before now) q
    ∙ ap (λ b. cond b (new_byte before now q) None) (addresses_have before now q)
    ∙ differs (finite.get before q) (finite.get now q)

pub both : (a b : Bool) → T a → T b → T (a && b)
both true b p q = q
both false b p q = absurd p

front : (a b : Bool) → T (a && b) → T a
front true b p = tt
front false b p = p

back : (a b : Bool) → T (a && b) → T b
back true b p = p
back false b p = absurd p

-- changes at ascending addresses ascend
changes_below : (before now : Memory) (x : ℕ) (es : List (ℕ × ℕ)) → T (entries.below_all nat_cmp x es)
    → T (entries.below_all nat_cmp x (changes_at before now (map (λ e. e.0) es)))
changes_below before now x [] h = tt
changes_below before now x (e ∷ es) h =
    go (eqb (byte_at before e.0) (byte_at now e.0))
    (changes_below before now x es (back (is_lt (nat_cmp x e.0)) (entries.below_all nat_cmp x es) h))
  where
    rest : List (ℕ × ℕ)
    rest = changes_at before now (map (λ d. d.0) es)

    go : (b : Bool) → T (entries.below_all nat_cmp x rest)
        → T (entries.below_all nat_cmp x (cond b rest ((e.0, byte_at now e.0) ∷ rest)))
    go true r = r
    go false r =
        both (is_lt (nat_cmp x e.0)) (entries.below_all nat_cmp x rest)
        (front (is_lt (nat_cmp x e.0)) (entries.below_all nat_cmp x es) h) r

pub changes_sorted : (before now : Memory) (es : List (ℕ × ℕ)) → T (entries.is_sorted nat_cmp es)
    → T (entries.is_sorted nat_cmp (changes_at before now (map (λ e. e.0) es)))
changes_sorted before now [] h = tt
changes_sorted before now (e ∷ es) h =
    go (eqb (byte_at before e.0) (byte_at now e.0))
    (changes_sorted before now es (back (entries.below_all nat_cmp e.0 es) (entries.is_sorted nat_cmp es) h))
  where
    rest : List (ℕ × ℕ)
    rest = changes_at before now (map (λ d. d.0) es)

    go : (b : Bool) → T (entries.is_sorted nat_cmp rest)
        → T (entries.is_sorted nat_cmp (cond b rest ((e.0, byte_at now e.0) ∷ rest)))
    go true r = r
    go false r =
        both (entries.below_all nat_cmp e.0 rest) (entries.is_sorted nat_cmp rest)
        (changes_below before now e.0 es (front (entries.below_all nat_cmp e.0 es) (entries.is_sorted nat_cmp es) h)) r

-- an ascending list that finds the new byte of each address is the list of changes
pub changed_is : (before now : Memory) (es : List (ℕ × ℕ)) → T (entries.is_sorted nat_cmp es)
    → ((q : ℕ) → entries.find nat_cmp q es ≡ new_byte before now q) → es ≡ changed before now
changed_is before now es sorted finds =
    entries.same_entries nat_cmp nat_cmp_total nat_cmp-IsAntisymmetric es (changed before now) sorted
    (changes_sorted before now (finite.entries all) (finite.entries_sorted all))
    (λ q. finds q ∙ sym (changed_found before now q))
  where
    all : FinMap nat_cmp ℕ
    all = finite.from_entries {R = nat_cmp} (finite.entries before ++ finite.entries now)
