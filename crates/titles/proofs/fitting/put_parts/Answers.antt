use Rattle.std.proofs.Common.{rules, ◌≡◌, ◌<◌, ◌≤◌, length, sym, subst, false, true}
use Rattle.titles.specs.Fitting.{AreParts, IsPart, Puts, PutsPart}
use Rattle.titles.proofs.Leading.{one_no_part, parts_end, parts_on, puts_more}
use Rattle.titles.proofs.fitting.put_parts.Goals as goal

pub returns-then-not-branch : goal.returns-then-not-branch
returns-then-not-branch c =
    let lt : c.loop-part.part-index < length c.args.parts.now = search rules in
    let was = c.loop-part.text.items in
    let now = c.put_part.new.text.items in
    let put : PutsPart c.part-item.result false was now =
    subst (λ is. PutsPart c.part-item.result is was now) c.if-not-branch.true c.in_ok-put_part.ensures in (
      one_no_part c.args.parts.now c.loop-part.part-index c.part-item.result lt c.part-item.is put.0,
      subst (λ t. Puts (λ bytes. Unit {0}) c.args.text.now.items t) (sym put.1) c.loop-part.invariant.some,
    )

pub loop-part-preserved : goal.loop-part-preserved
loop-part-preserved c =
    let lt : c.loop-part.part-index < length c.args.parts.now = search rules in
    let was = c.loop-part.text.items in
    let now = c.put_part.new.text.items in
    let put : Puts (IsPart c.part-item.result) was now =
    subst (λ is. PutsPart c.part-item.result is was now) c.if-not-branch.false c.in_ok-put_part.ensures in
    record {
      leads = parts_on c.args.parts.now c.loop-part.part-index c.part-item.result (AreParts c.args.parts.now)
          c.args.text.now.items was now lt c.part-item.is c.loop-part.invariant.leads put;
      some = puts_more (IsPart c.part-item.result) c.args.text.now.items was now c.loop-part.invariant.some put;
    }

pub returns : goal.returns
returns c =
    let all : length c.args.parts.now ≤ c.loop-part.part-index = search rules in
    parts_end c.args.parts.now c.loop-part.part-index c.args.text.now.items c.loop-part.text.items all
    c.loop-part.invariant.leads
