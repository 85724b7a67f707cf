use Rattle.std.proofs.Common.{◌≡◌, [], ◌∷◌, Ok, Err, sym, ap, subst, ◌∙◌, length, rules, arith}
use Rattle.std.specs.List.{AllByRecursion}
use Rattle.uecp_elements.specs.Reading.{items, IsItem}
use Rattle.uecp_elements.specs.View.{element_of}
use Rattle.rds_store.proofs.Judged.{Left, left_at_first, left_on, left_refused, left_fault, left_end}
use Rattle.rds_store.proofs.data_sets.DataSets.judged.Goals as goal

pub loop-item-init : goal.loop-item-init
loop-item-init c =
    let self = c.args.self.now in
    let all = items c.args.message.now in
    let given : c.into_iter-item-iterator.result ≡ all = search rules in
    let groups : c.len-waiting.result ≡ length self.groups =
    c.len-waiting.ensures.value ∙ ap (λ v. length v.groups) c.self.view_is in
    record {
      each = search rules;
      few = let value = c.len-waiting.ensures.value in let most = c.self.invariant.few_groups in omega arith;
      left = subst (λ rest. Left self all rest c.len-waiting.result) (sym given)
          (subst (λ n. Left self all all n) (sym groups) (left_at_first self all));
    }

pub loop-item-preserved : goal.loop-item-preserved
loop-item-preserved c =
    let first : c.loop-item.item-iterator ≡ Ok (element_of c.in-Ok.element) ∷ c.next.new.self = search rules in
    let self = c.args.self.now in
    let all = items c.args.message.now in
    record {
      each = (subst (λ rest. AllByRecursion IsItem rest) first c.loop-item.invariant.each).1;
      few = c.in-Ok-judge.ensures.few;
      left = left_on self all (element_of c.in-Ok.element) c.next.new.self c.loop-item.waiting c.in-Ok-judge.after
          (subst (λ rest. Left self all rest c.loop-item.waiting) first c.loop-item.invariant.left)
          c.in-Ok-judge.ensures.judged;
    }

pub returns-in-Err-judge : goal.returns-in-Err-judge
returns-in-Err-judge c =
    let first : c.loop-item.item-iterator ≡ Ok (element_of c.in-Ok.element) ∷ c.next.new.self = search rules in
    let self = c.args.self.now in
    let all = items c.args.message.now in
    left_refused self all (element_of c.in-Ok.element) c.next.new.self c.loop-item.waiting c.in-Err-judge.refused
    (subst (λ rest. Left self all rest c.loop-item.waiting) first c.loop-item.invariant.left)
    c.in-Err-judge.ensures.judged

pub returns-in-Err : goal.returns-in-Err
returns-in-Err c =
    let first : c.loop-item.item-iterator ≡ Err c.in-Err.fault ∷ c.next.new.self = search rules in
    let self = c.args.self.now in
    let all = items c.args.message.now in
    left_fault self all c.in-Err.fault c.next.new.self c.loop-item.waiting
    (subst (λ rest. Left self all rest c.loop-item.waiting) first c.loop-item.invariant.left)

pub returns : goal.returns
returns c =
    let none : c.loop-item.item-iterator ≡ [] = search rules in
    let self = c.args.self.now in
    let all = items c.args.message.now in
    left_end self all c.loop-item.waiting
    (subst (λ rest. Left self all rest c.loop-item.waiting) none c.loop-item.invariant.left)
