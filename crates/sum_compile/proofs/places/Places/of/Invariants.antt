use Rattle.std.proofs.Common.{◌≡◌, ◌≤◌, map, take}
use Rattle.std.specs.List.{count_by}
use Rattle.sum_compile.specs.Plain.{has_home, place_of}
use Rattle.sum_compile.proofs.places.Places.of.Given as goal

-- the values so far have their places, and their homes are counted
abbrev pub invariant-loop-value : goal.invariant-loop-value
invariant-loop-value l = record {
  places : l.by_number.items ≡ map (λ v. place_of l.values v.id) (take l.value-index l.values);
  words : l.words ≡ count_by (λ v. has_home v.op) (take l.value-index l.values);
  few : l.words ≤ l.value-index;
}
