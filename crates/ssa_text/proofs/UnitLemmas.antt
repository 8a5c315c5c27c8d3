-- What a line leaves of the signatures, the counts and the names of a unit.
use Rattle.std.proofs.Common.{◌≡◌, ℕ, ◌+◌, ◌<◌, ◌≤◌, false, nat_eq, List, [], ◌∷◌, ◌++◌, length, is_some, if◌then◌else◌}
use Rattle.std.proofs.Common.{All, Option, None, Some, IfSome, refl, sym, subst, arith}
use Rattle.std.specs.Cmp.Lexicographic.{pointwise}
use Rattle.std.specs.List.{list_any}
use Rattle.std.proofs.lemmas.List.Elements.{All-push}
use Rattle.std.proofs.lemmas.Slice.Eq.{bytes_eq-Decides}
use Rattle.ssa_ir.specs.declared.limits.TheConstants.{MAX_FUNCTIONS, MAX_SIGS}
use Rattle.ssa_ir.specs.declared.func.Func.{Func}
use Rattle.ssa_ir.specs.WellFormed.{Differ}
use Rattle.ssa_lines.specs.declared.forms.Spelled.TheVariants.{Fits}
use Rattle.ssa_lines.specs.declared.forms.ValueLine.TheVariants.{Known}
use Rattle.ssa_lines.specs.declared.forms.Form.{Form}
use Rattle.ssa_lines.specs.declared.forms.Form.TheVariants.{Sig as SigForm, Func as FuncForm, Block as BlockForm}
use Rattle.ssa_lines.specs.declared.forms.Form.TheVariants.{Value as ValueForm, Control as ControlForm}
use Rattle.ssa_text.specs.declared.partial.OpenFunc.{OpenFunc}
use Rattle.ssa_text.specs.Reading.{Read, names_given, change, begin_block, value_behind, end_block, whole, with_whole}
use Rattle.ssa_text.specs.Reading.{behind}
use Rattle.ssa_text.proofs.ListLemmas.{length_push, none_same, differ_push}
use Rattle.ssa_text.proofs.ReadFacts.{Taken, GoodSig, SigsWell, CountsWell, NamesWell}
use Rattle.ssa_text.proofs.TakeLemmas.{all_names, func_behind, sig_taken, names_stay, still_none, end_keeps_sig}

-- ---- signatures

abbrev GoodHead : Option OpenFunc → Type 0
GoodHead func = IfSome func (λ f. GoodSig f.sig)

-- the one that goes on ends
pub whole_sigs : (funcs : List Func) (func : Option OpenFunc) → All (λ (f : Func). GoodSig f.sig) funcs
    → GoodHead func → All (λ (f : Func). GoodSig f.sig) (with_whole funcs func)
whole_sigs funcs None good head = good
whole_sigs funcs (Some f) good head = All-push (λ (g : Func). GoodSig g.sig) funcs (whole f) good head

head_stays : (by : OpenFunc → OpenFunc) → ((f : OpenFunc) → (by f).sig ≡ f.sig) → (func : Option OpenFunc)
    → GoodHead func → GoodHead (change by func)
head_stays by keeps None head = tt
head_stays by keeps (Some f) head = subst GoodSig (sym (keeps f)) head

-- the signatures behind a line
pub sigs_behind : (r : Read) (line : ℕ) (form : Form) → Taken r form → SigsWell r → SigsWell (behind r line form)
sigs_behind r line (SigForm s) t well = record {
  sigs = All-push GoodSig r.sigs s well.sigs (record { name = t.facts; limits = t.limits });
  funcs = well.funcs;
  open_func = well.open_func;
}
sigs_behind r line (FuncForm s) t well = record {
  sigs = well.sigs;
  funcs = whole_sigs r.funcs r.func well.funcs well.open_func;
  open_func = record { name = t.facts; limits = t.limits };
}
sigs_behind r line (BlockForm (Fits b)) t well = record {
  sigs = well.sigs;
  funcs = well.funcs;
  open_func = head_stays (begin_block b) (λ f. refl) r.func well.open_func;
}
sigs_behind r line (ValueForm (Known v)) t well = record {
  sigs = well.sigs;
  funcs = well.funcs;
  open_func = head_stays (value_behind v) (λ f. refl) r.func well.open_func;
}
sigs_behind r line (ControlForm (Fits c)) t well = record {
  sigs = well.sigs;
  funcs = well.funcs;
  open_func = head_stays (end_block c) (end_keeps_sig c) r.func well.open_func;
}
sigs_behind r line _ t well = well

-- ---- counts

-- as many functions as with the one that goes on
pub whole_count : (funcs : List Func) (func : Option OpenFunc)
    → length (with_whole funcs func) ≡ length funcs + (if is_some func then 1 else 0)
whole_count funcs None = omega arith
whole_count funcs (Some f) = length_push funcs (whole f)

count_stays : (funcs : List Func) (by : OpenFunc → OpenFunc) (func : Option OpenFunc)
    → length funcs + (if is_some func then 1 else 0) ≤ MAX_FUNCTIONS
    → length funcs + (if is_some (change by func) then 1 else 0) ≤ MAX_FUNCTIONS
count_stays funcs by None h = h
count_stays funcs by (Some f) h = h

-- the counts behind a line
pub counts_behind : (r : Read) (line : ℕ) (form : Form) → Taken r form → CountsWell r
    → CountsWell (behind r line form)
counts_behind r line (SigForm s) t well =
    let room : length r.sigs < MAX_SIGS = t.room in
    record { sigs = omega (arith, length_push r.sigs s); funcs = well.funcs }
counts_behind r line (FuncForm s) t well =
    let room : length r.funcs + (if is_some r.func then 1 else 0) < MAX_FUNCTIONS = t.room in
    record { sigs = well.sigs; funcs = omega (arith, whole_count r.funcs r.func) }
counts_behind r line (BlockForm (Fits b)) t well =
    record { sigs = well.sigs; funcs = count_stays r.funcs (begin_block b) r.func well.funcs }
counts_behind r line (ValueForm (Known v)) t well =
    record { sigs = well.sigs; funcs = count_stays r.funcs (value_behind v) r.func well.funcs }
counts_behind r line (ControlForm (Fits c)) t well =
    record { sigs = well.sigs; funcs = count_stays r.funcs (end_block c) r.func well.funcs }
counts_behind r line _ t well = well

-- ---- names

-- a name that isn't given yet goes last
name_more : (names : List (List ℕ)) (name : List ℕ) → Differ names
    → list_any (λ n. pointwise nat_eq n name) names ≡ false → Differ (names ++ name ∷ [])
name_more names name differ new =
    let itself = λ (n : List ℕ) (e : n ≡ name). (bytes_eq-Decides n name).1 e in
    differ_push names name differ
    (none_same (λ (n : List ℕ). n) (λ n. pointwise nat_eq n name) name itself names new)

changed_names : (by : OpenFunc → OpenFunc) → ((f : OpenFunc) → (by f).sig ≡ f.sig) → (r : Read) → NamesWell r
    → Differ (all_names r.sigs r.funcs (change by r.func))
changed_names by keeps r well =
    subst Differ (names_stay r.sigs r.funcs r.func by (names_given r) keeps refl) well.differ

-- the names behind a line
pub names_behind : (r : Read) (line : ℕ) (form : Form) → Taken r form → NamesWell r → NamesWell (behind r line form)
names_behind r line (SigForm s) t well =
    let names = names_given r in
    let more = r.sigs ++ s ∷ [] in
    let after = names ++ s.name ∷ [] in
    let given = sig_taken r.sigs more r.funcs r.func s names after s.name t.place well.none_yet refl refl refl refl in
    record { none_yet = well.none_yet; differ = subst Differ given (name_more names s.name well.differ t.once) }
names_behind r line (FuncForm s) t well =
    let names = names_given r in
    record {
      none_yet = λ none. cc;
      differ = subst Differ (sym (func_behind r.sigs r.funcs r.func s)) (name_more names s.name well.differ t.once);
    }
names_behind r line (BlockForm (Fits b)) t well = record {
  none_yet = still_none (begin_block b) r.func r.funcs well.none_yet;
  differ = changed_names (begin_block b) (λ f. refl) r well;
}
names_behind r line (ValueForm (Known v)) t well = record {
  none_yet = still_none (value_behind v) r.func r.funcs well.none_yet;
  differ = changed_names (value_behind v) (λ f. refl) r well;
}
names_behind r line (ControlForm (Fits c)) t well = record {
  none_yet = still_none (end_block c) r.func r.funcs well.none_yet;
  differ = changed_names (end_block c) (end_keeps_sig c) r well;
}
names_behind r line _ t well = well
