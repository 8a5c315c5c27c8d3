use Rattle.std.proofs.Common.{◌≡◌, ◌++◌, take}
use Rattle.std.specs.List.{flat_map}
use Rattle.case_text.specs.CaseText.{reply_text}
use Rattle.case_text.proofs.print.print_replies.Given as goal

-- the replies so far are appended
abbrev pub invariant-loop-reply : goal.invariant-loop-reply
invariant-loop-reply l = l.text.items ≡ l.fn.text.items ++ flat_map reply_text (take l.reply-index l.replies)
