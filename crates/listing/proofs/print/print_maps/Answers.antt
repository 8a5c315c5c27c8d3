use Rattle.std.proofs.Common.{◌≡◌, ◌++◌, ℕ, ◌+◌, List, drop, sym, ap, ◌∙◌, subst, append_assoc}
use Rattle.std.proofs.lemmas.List.{drop_more}
use Rattle.gossa_base.specs.Prefixes.{AddsPrefix}
use Rattle.gossa_base.proofs.PrefixLemmas.{in_front, onward, one_more, failed}
use Rattle.listing.specs.declared.code.Map.{Map}
use Rattle.listing.specs.Text.{map_line, maps_text}
use Rattle.listing.proofs.print.print_maps.Goals as goal

pub returns-in_err-print_map-clause-prefix : goal.returns-in_err-print_map-clause-prefix
returns-in_err-print_map-clause-prefix c =
    let n : ℕ = c.loop-number.number in
    let maps : List Map = c.args.maps.now in
    let map : Map = c.index-maps-number.result in
    let before : List ℕ = c.args.text.now.items in
    let so_far : List ℕ = c.loop-number.text.items in
    let after : List ℕ = c.print_map.new.text.items in
    let left : maps_text n (drop n maps) ≡ map_line n map ++ maps_text (n + 1) (drop (n + 1) maps)
    = ap (maps_text n) (drop_more maps n map c.loop-number-test.true)
    ∙ ap (λ (m : Map). map_line n m ++ maps_text (n + 1) (drop (n + 1) maps)) (sym c.index-maps-number.is) in
    failed _ _ (onward before so_far after (maps_text n (drop n maps)) (maps_text 0 maps)
    c.loop-number.invariant.so_far c.loop-number.invariant.joined
    (subst (AddsPrefix so_far after) (sym left)
    (in_front so_far after (map_line n map) _ c.in_err-print_map.ensures.prefix)))

pub loop-number-preserved : goal.loop-number-preserved
loop-number-preserved c =
    let n : ℕ = c.loop-number.number in
    let maps : List Map = c.args.maps.now in
    let map : Map = c.index-maps-number.result in
    let before : List ℕ = c.args.text.now.items in
    let so_far : List ℕ = c.loop-number.text.items in
    let after : List ℕ = c.print_map.new.text.items in
    let others : List ℕ = maps_text (n + 1) (drop (n + 1) maps) in
    let left : maps_text n (drop n maps) ≡ map_line n map ++ others
    = ap (maps_text n) (drop_more maps n map c.loop-number-test.true)
    ∙ ap (λ (m : Map). map_line n m ++ others) (sym c.index-maps-number.is) in
    let joined : so_far ++ (map_line n map ++ others) ≡ before ++ maps_text 0 maps
    = ap (λ (l : List ℕ). so_far ++ l) (sym left) ∙ c.loop-number.invariant.joined in
    record {
      joined = ap (λ (l : List ℕ). l ++ others) c.in_ok-print_map.ensures.ok
          ∙ append_assoc so_far (map_line n map) others ∙ joined;
      so_far = one_more before so_far after (map_line n map) others (maps_text 0 maps)
          c.loop-number.invariant.so_far joined c.in_ok-print_map.ensures.ok;
    }
