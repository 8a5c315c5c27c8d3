-- What is known of the signatures that lines spell.
use Rattle.std.proofs.Common.{◌≡◌, ℕ, true, nat_le, ◌&&◌, List, [], ◌∷◌, length, IfSome}
use Rattle.std.specs.List.{before_first, after_first, list_any}
use Rattle.std.proofs.lemmas.Bool.{and_parts, leb-true}
use Rattle.ssa_ir.specs.declared.types.Sig.{Sig}
use Rattle.ssa_ir.specs.Names.{IsName, has_name_bytes}
use Rattle.ssa_lines.specs.Headers.{is_name, is_open, name_before, group_ahead, results_of, signature_of}
use Rattle.ssa_lines.specs.Steps.{only_where}
use Rattle.ssa_lines.proofs.GrammarLemmas.{then_shown, then_any, only_where_true}

-- a word that passes the test of names is a name
pub name_tested : (word : List ℕ) → is_name word ≡ true → IsName word
name_tested word h =
    let parts = and_parts (has_name_bytes word) (nat_le (length word) 100) h in
    record { form = parts.0; few = leb-true (length word) 100 parts.1 }

name_shown : (word : List ℕ) → IfSome (name_before word) IsName
name_shown word =
    let name = before_first is_open word in
    then_shown IsName (only_where (list_any is_open word && is_name name)) _
    (only_where_true (list_any is_open word && is_name name))
    (λ t h. name_tested name (and_parts (list_any is_open word) (is_name name) h).1)

-- the name of a signature is one
pub sig_named : (words : List (List ℕ)) → IfSome (signature_of words) (λ (s : Sig). IsName s.name)
sig_named [] = tt
sig_named (word ∷ words) =
    then_shown (λ (s : Sig). IsName s.name) (name_before word) _ (name_shown word)
    (λ name named. then_any (λ (s : Sig). IsName s.name) (group_ahead (after_first is_open word ∷ words)) _
    (λ params. then_any (λ (s : Sig). IsName s.name) (results_of params.1) _ (λ results. named)))
