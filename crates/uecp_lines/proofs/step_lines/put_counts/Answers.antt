use Rattle.std.proofs.Common.{List, ℕ, ◌++◌, codes}
use Rattle.uecp_text.specs.Digits.{counted}
use Rattle.uecp_text.proofs.Public.{adds_then}
use Rattle.uecp_lines.proofs.step_lines.put_counts.Goals as goal

pub returns : goal.returns
returns c =
    let start = c.args.output.now in
    let one : List ℕ = counted (codes "sent") c.args.sent in
    let two : List ℕ = counted (codes " applied") c.args.applied in
    let three : List ℕ = counted (codes " acknowledged") c.args.acknowledged in
    let first_two = adds_then start c.put_count.new.output c.put_count-2.new.output one two c.put_count.ensures
    c.put_count-2.ensures in
    let all_three = adds_then start c.put_count-2.new.output c.put_count-3.new.output (one ++ two) three first_two
    c.put_count-3.ensures in
    adds_then start c.put_count-3.new.output c.end.new.self (one ++ two ++ three) (codes "\n") all_three
    c.end.ensures.added
