-- What was read from two texts is alike where only the numbers of lines may differ, and stays so behind the same form.
use Rattle.std.proofs.Common.{◌≡◌, ℕ, not, ◌||◌, List, [], ◌∷◌, ◌++◌, map, is_some, Option, None, Some, refl, sym, ap}
use Rattle.std.proofs.Common.{subst, ◌∙◌}
use Rattle.std.specs.List.{list_any, find}
use Rattle.std.specs.Option.{option_map, option_or}
use Rattle.std.proofs.lemmas.List.{map-append}
use Rattle.ssa_lines.specs.declared.forms.Spelled.TheVariants.{Fits, TooLarge as NotSpelled}
use Rattle.ssa_lines.specs.declared.forms.ValueLine.TheVariants.{Known, UnknownOp as NoSuchOp}
use Rattle.ssa_lines.specs.declared.forms.ValueLine.TheVariants.{TooLarge as ValueTooLarge}
use Rattle.ssa_lines.specs.declared.forms.Form.{Form}
use Rattle.ssa_lines.specs.declared.forms.Form.TheVariants.{Blank, Case, Sig as SigForm, Func as FuncForm}
use Rattle.ssa_lines.specs.declared.forms.Form.TheVariants.{Block as BlockForm, Value as ValueForm}
use Rattle.ssa_lines.specs.declared.forms.Form.TheVariants.{Control as ControlForm, Bad}
use Rattle.ssa_text.specs.declared.partial.OpenFunc.{OpenFunc}
use Rattle.ssa_text.specs.declared.partial.Named.{Named}
use Rattle.ssa_text.specs.declared.partial.Named.TheVariants.{OfValue, OfBlock}
use Rattle.ssa_text.specs.declared.partial.Mention.{Mention}
use Rattle.ssa_text.specs.Reading.{Read, read_of, mention, mentioned, has_named, unknown_in, unknown_line}
use Rattle.ssa_text.specs.Reading.{control_mention, behind}
use Rattle.ssa_text.proofs.FormTests.{Passes}
use Rattle.ssa_text.proofs.ListLemmas.{found_by_test}
use Rattle.ssa_lines.proofs.TableLemmas.{list_any_map}

-- what was read, without all that has numbers of lines
abbrev pub bare : Read → Read
bare r = read_of r.sigs r.funcs r.func [] None

abbrev pub names_of : List Mention → List Named
names_of mentions = map (λ (m : Mention). m.named) mentions

pub record Alike (r s : Read) : Type 0 where
  pub read : bare r ≡ bare s
  pub named : names_of r.mentions ≡ names_of s.mentions
  pub unknown : is_some r.unknown ≡ is_some s.unknown

-- the tests of a form ask nothing of lines
bare_passes : (r : Read) (form : Form) → Passes r form ≡ Passes (bare r) form
bare_passes r Blank = refl
bare_passes r Case = refl
bare_passes r Bad = refl
bare_passes r (SigForm s) = refl
bare_passes r (FuncForm s) = refl
bare_passes r (BlockForm NotSpelled) = refl
bare_passes r (BlockForm (Fits b)) = refl
bare_passes r (ValueForm NoSuchOp) = refl
bare_passes r (ValueForm ValueTooLarge) = refl
bare_passes r (ValueForm (Known v)) = refl
bare_passes r (ControlForm NotSpelled) = refl
bare_passes r (ControlForm (Fits c)) = refl

-- what passes behind the one passes behind the other
pub alike_passes : (r s : Read) (form : Form) → Alike r s → Passes r form → Passes s form
alike_passes r s form alike h =
    let same = bare_passes r form ∙ ap (λ (x : Read). Passes x form) alike.read ∙ sym (bare_passes s form) in
    subst (λ X. X) same h

-- more names behind those of before
names_behind : (r s : Read) (i j : ℕ) (names : List Named) → Alike r s →
    names_of (mentioned r i names) ≡ names_of (mentioned s j names)
names_behind r s i j names alike =
    map-append (λ (m : Mention). m.named) r.mentions (map (mention i) names)
    ∙ ap (λ l. names_of r.mentions ++ l) (plain i names ∙ sym (plain j names))
    ∙ ap (λ l. l ++ names_of (map (mention j) names)) alike.named
    ∙ sym (map-append (λ (m : Mention). m.named) s.mentions (map (mention j) names))
  where
    plain : (line : ℕ) (ns : List Named) → names_of (map (mention line) ns) ≡ ns
    plain line [] = refl
    plain line (n ∷ ns) = ap (λ l. n ∷ l) (plain line ns)

still_some : (o : Option Mention) → is_some (option_map (λ m. m.line) o) ≡ is_some o
still_some None = refl
still_some (Some m) = refl

-- whether any name is unknown in the function that ends
some_unknown : (func : Option OpenFunc) (mentions : List Mention) →
    is_some (unknown_in func mentions) ≡ list_any (λ n. not (has_named func n)) (names_of mentions)
some_unknown func mentions =
    let unknown = λ (m : Mention). not (has_named func m.named) in
    still_some (find unknown mentions)
    ∙ found_by_test unknown mentions
    ∙ sym (list_any_map (λ (m : Mention). m.named) (λ n. not (has_named func n)) mentions)

either_some : (a b : Option ℕ) → is_some (option_or a b) ≡ (is_some a || is_some b)
either_some None b = refl
either_some (Some x) b = refl

-- both name what their function doesn't have, or neither does
pub alike_unknown : (r s : Read) → Alike r s → is_some (unknown_line r) ≡ is_some (unknown_line s)
alike_unknown r s alike =
    let any = λ (f : Option OpenFunc) (names : List Named). list_any (λ n. not (has_named f n)) names in
    either_some r.unknown (unknown_in r.func r.mentions)
    ∙ ap (λ b. is_some r.unknown || b) (some_unknown r.func r.mentions)
    ∙ (λ i. alike.unknown i || any (alike.read i).func (alike.named i))
    ∙ ap (λ b. is_some s.unknown || b) (sym (some_unknown s.func s.mentions))
    ∙ sym (either_some s.unknown (unknown_in s.func s.mentions))

-- behind the same form, at any two lines
pub alike_behind : (r s : Read) (i j : ℕ) (form : Form) → Alike r s → Alike (behind r i form) (behind s j form)
alike_behind r s i j Blank alike = alike
alike_behind r s i j Case alike = alike
alike_behind r s i j Bad alike = alike
alike_behind r s i j (SigForm x) alike = record {
  read = ap (λ (t : Read). bare (behind t 0 (SigForm x))) alike.read;
  named = alike.named;
  unknown = alike.unknown;
}
alike_behind r s i j (FuncForm x) alike = record {
  read = ap (λ (t : Read). bare (behind t 0 (FuncForm x))) alike.read;
  named = refl;
  unknown = alike_unknown r s alike;
}
alike_behind r s i j (BlockForm NotSpelled) alike = alike
alike_behind r s i j (BlockForm (Fits b)) alike = record {
  read = ap (λ (t : Read). bare (behind t 0 (BlockForm (Fits b)))) alike.read;
  named = names_behind r s i j (map OfBlock b.preds) alike;
  unknown = alike.unknown;
}
alike_behind r s i j (ValueForm NoSuchOp) alike = alike
alike_behind r s i j (ValueForm ValueTooLarge) alike = alike
alike_behind r s i j (ValueForm (Known v)) alike = record {
  read = ap (λ (t : Read). bare (behind t 0 (ValueForm (Known v)))) alike.read;
  named = names_behind r s i j (map OfValue v.args) alike;
  unknown = alike.unknown;
}
alike_behind r s i j (ControlForm NotSpelled) alike = alike
alike_behind r s i j (ControlForm (Fits c)) alike = record {
  read = ap (λ (t : Read). bare (behind t 0 (ControlForm (Fits c)))) alike.read;
  named = names_behind r s i j (control_mention c.control ++ map OfBlock c.succs) alike;
  unknown = alike.unknown;
}
