use Rattle.std.proofs.Common.{◌≡◌, ◌++◌, drop}
use Rattle.gossa_base.specs.Prefixes.{AddsPrefix}
use Rattle.listing.specs.Text.{maps_text}
use Rattle.listing.proofs.print.print_maps.Given as goal

-- the maps so far are appended, and the rest makes it whole
abbrev pub invariant-loop-number : goal.invariant-loop-number
invariant-loop-number l =
    record {
      joined : l.text.items ++ maps_text l.number (drop l.number l.maps) ≡ l.fn.text.items ++ maps_text 0 l.maps;
      so_far : AddsPrefix l.fn.text.items l.text.items (maps_text 0 l.maps);
    }
