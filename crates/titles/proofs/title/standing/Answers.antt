use Rattle.std.proofs.Common.{rules, ◌≡◌, ◌+◌, ◌<◌, ◌≤◌, length, get_or, arith, subst, sym}
use Rattle.std.specs.Prelude.{Some}
use Rattle.rds_text.specs.BasicSet.{character_of}
use Rattle.titles.specs.Fitting.{IsNotInSet}
use Rattle.titles.proofs.Standing.{Are, no_room, none_in_set, stand_end, stand_on}
use Rattle.titles.proofs.title.standing.Goals.{in_default-via-in-Some+else-len-lt-TEXT_MAX, in_default-via-in_default}
use Rattle.titles.proofs.title.standing.Goals as goal

pub returns-in_default : goal.returns-in_default
returns-in_default c =
    let lt : c.loop-place.place < length c.args.characters.now = search rules in
    elim c.in_default.branch [
      | in_default-via-in-Some+else-len-lt-TEXT_MAX w ↦ (
        tt,
        no_room c.args.prefix.now c.args.characters.now
            (omega (arith, lt, c.loop-place.invariant.long, w.if-len-lt-TEXT_MAX.false)),
      )
      | in_default-via-in_default w ↦
          let here : get_or c.args.characters.now c.loop-place.place c.index-characters-place.result
          ≡ c.index-characters-place.result = search rules in
          let none : IsNotInSet c.index-characters-place.result = search rules in (
            tt,
            none_in_set c.args.prefix.now c.args.characters.now c.loop-place.place c.index-characters-place.result lt
                (subst IsNotInSet (sym here) none),
          )
    ]

pub loop-place-preserved : goal.loop-place-preserved
loop-place-preserved c =
    let lt : c.loop-place.place < length c.args.characters.now = search rules in
    let here : get_or c.args.characters.now c.loop-place.place c.index-characters-place.result
    ≡ c.index-characters-place.result = search rules in
    let is : character_of c.in-Some.byte ≡ Some c.index-characters-place.result = search rules in
    record {
      leads = stand_on c.args.characters.now c.loop-place.place c.in-Some.byte c.index-characters-place.result
          (Are c.args.characters.now) c.args.prefix.now c.loop-place.text.items c.push.new.self.items lt here
          c.loop-place.invariant.leads is c.in_ok-push-in-Some.ensures.items;
      long = search rules;
    }

pub returns-then-len-le-TEXT_MAX : goal.returns-then-len-le-TEXT_MAX
returns-then-len-le-TEXT_MAX c =
    let all : length c.args.characters.now ≤ c.loop-place.place = search rules in
    let few : length c.loop-place.text.items ≤ 64 = search rules in (
      stand_end c.args.prefix.now c.args.characters.now c.loop-place.place c.loop-place.text.items all
          c.loop-place.invariant.leads few,
      tt,
    )

pub returns-else-len-le-TEXT_MAX : goal.returns-else-len-le-TEXT_MAX
returns-else-len-le-TEXT_MAX c =
    let most : c.loop-place.place ≤ length c.args.characters.now = search rules in (
      tt,
      no_room c.args.prefix.now c.args.characters.now
          (omega (arith, most, c.loop-place.invariant.long, c.if-len-le-TEXT_MAX.false)),
    )
