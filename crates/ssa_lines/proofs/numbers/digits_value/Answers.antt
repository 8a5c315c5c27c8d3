use Rattle.std.proofs.Common.{◌<◌, ℕ, ◌+◌, ◌*◌, List, length, Some, refl, sym, ap, ◌∙◌, arith}
use Rattle.std.specs.Option.{option_map}
use Rattle.std.proofs.lemmas.Bool.Decides.{nat_tests}
use Rattle.ssa_lines.specs.Counts.{counted}
use Rattle.ssa_lines.proofs.NumberLemmas.{begun, more_digits, no_digit, digits_end}
use Rattle.ssa_lines.proofs.numbers.digits_value.Goals as goal

pub loop-byte-init : goal.loop-byte-init
loop-byte-init c =
    let digits : List ℕ = c.args.digits.now in
    let some : 0 < length digits = grind (arith, nat_tests) in
    (0, refl, begun c.args.base digits some)

pub returns-in_err-digit_in : goal.returns-in_err-digit_in
returns-in_err-digit_in c =
    let n : ℕ = c.loop-byte.invariant.0 in
    let none =
    no_digit c.args.base n c.args.digits.now c.loop-byte.byte-index _ c.loop-byte-test.true
    (sym c.in_err-digit_in.ensures) in
    c.from_residual.ensures ∙ sym (ap (option_map counted) (c.loop-byte.invariant.2 ∙ none))

pub loop-byte-preserved : goal.loop-byte-preserved
loop-byte-preserved c =
    let n : ℕ = c.loop-byte.invariant.0 in
    let v : ℕ = c.in_ok-digit_in.field-0 in
    let more =
    more_digits c.args.base n c.args.digits.now c.loop-byte.byte-index _ v c.loop-byte-test.true
    (sym c.in_ok-digit_in.ensures) in
    (n * c.args.base + v, c.with_digit-count.ensures n c.loop-byte.invariant.1, c.loop-byte.invariant.2 ∙ more)

pub returns : goal.returns
returns c =
    let n : ℕ = c.loop-byte.invariant.0 in
    let end = digits_end c.args.base n c.args.digits.now c.loop-byte.byte-index c.loop-byte-test.false in
    ap Some c.loop-byte.invariant.1 ∙ sym (ap (option_map counted) (c.loop-byte.invariant.2 ∙ end))
