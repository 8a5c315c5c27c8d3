use Rattle.std.proofs.Common.{◌≡◌, ◌+◌, ◌-◌, ◌≤◌, drop, length}
use Rattle.ssa_ir.specs.Edges.{place_of_time}
use Rattle.ssa_meaning.proofs.ready.place_of_time.Given as goal

-- the places gone by and those to go are all
abbrev pub invariant-loop-place : goal.invariant-loop-place
invariant-loop-place l =
    (l.place + place_of_time (drop l.place l.ids) l.id l.left ≡ place_of_time l.ids l.id l.times)
    × (l.place ≤ length l.ids)

abbrev pub decreases-loop-place : goal.decreases-loop-place
decreases-loop-place l = length l.ids - l.place
