use Rattle.std.proofs.Common.{◌≡◌, ◌∷◌, subst, rules}
use Rattle.std.specs.List.{AllByRecursion}
use Rattle.uecp_elements.specs.Reading.{items, IsItem}
use Rattle.uecp_elements.specs.View.{item_of}
use Rattle.uecp_text.proofs.Public.{Leads}
use Rattle.uecp_phrases.proofs.WritingLines.{left_of, whole_of, line_begins, line_goes_on}
use Rattle.uecp_phrases.proofs.message_line.put_message.Goals as goal

pub loop-other-init : goal.loop-other-init
loop-other-init c =
    let first : items c.args.message.now ≡ item_of c.in-Some.first ∷ c.next.new.self = search rules in
    let each : AllByRecursion IsItem c.into_iter-other-iterator.result = search rules in
    let same : c.next.new.self ≡ c.into_iter-other-iterator.result = search rules in
    record {
      each = each;
      leads = subst (λ l. Leads c.args.output.now c.put_first.new.output (left_of c.args.region c.args.message.now l)
          (whole_of c.args.region c.args.message.now)) same
          (line_begins c.args.output.now c.put_first.new.output c.args.region c.args.message.now
          (item_of c.in-Some.first)
          c.next.new.self first c.put_first.ensures);
    }

pub loop-other-preserved : goal.loop-other-preserved
loop-other-preserved c =
    let step : c.loop-other.other-iterator ≡ item_of c.in-Some-other.other ∷ c.next-in-loop-other.new.self =
    search rules in
    let each : AllByRecursion IsItem c.next-in-loop-other.new.self = search rules in
    record {
      each = each;
      leads = line_goes_on c.args.output.now c.loop-other.output c.put_behind.new.output c.put_other.new.output
          c.args.region c.args.message.now (item_of c.in-Some-other.other) c.next-in-loop-other.new.self
          (subst (λ l. Leads c.args.output.now c.loop-other.output (left_of c.args.region c.args.message.now l)
          (whole_of c.args.region c.args.message.now)) step c.loop-other.invariant.leads)
          c.put_behind.ensures c.put_other.ensures;
    }
