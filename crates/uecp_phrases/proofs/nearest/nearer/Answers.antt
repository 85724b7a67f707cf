use Rattle.std.proofs.Common.{◌≡◌, ◌∙◌, arith, ap}
use Rattle.uecp_phrases.specs.declared.nearest.Near.{Near}
use Rattle.uecp_phrases.specs.Nearest.{IsNear, distance}
use Rattle.uecp_phrases.proofs.Nearing.{found_on, found_now}
use Rattle.uecp_phrases.proofs.nearest.nearer.Goals as goal
use Rattle.uecp_phrases.proofs.nearest.nearer.Goals.{in_default-via-in-Some+else-other-distance}
use Rattle.uecp_phrases.proofs.nearest.nearer.Goals.{in_default-via-in_default}

pub returns-then-distance-gt-DISTANCE_MAX : goal.returns-then-distance-gt-DISTANCE_MAX
returns-then-distance-gt-DISTANCE_MAX c =
    let counted : c.in_ok-distance.distance ≡ distance c.args.letters.now c.args.word.now =
    c.in_ok-distance.ensures ∙ ap (distance c.args.letters.now) c.as_bytes.ensures.value in
    let many = c.if-distance-gt-DISTANCE_MAX.true in
    let far : IsNear c.args.letters.now c.args.word.now → ⊥ =
    λ this. (let few = this.0 in omega (arith, counted, few, many)) in
    λ words was. found_on c.args.letters.now words c.args.word.now c.args.found was
    (λ near is this. absurd (far this)) (λ none this. far this)

pub returns-then-distance-max : goal.returns-then-distance-max
returns-then-distance-max c =
    let counted : c.in_ok-distance.distance ≡ distance c.args.letters.now c.args.word.now =
    c.in_ok-distance.ensures ∙ ap (distance c.args.letters.now) c.as_bytes.ensures.value in
    let all = c.if-distance-max.true in
    let longest = c.max.ensures in
    let far : IsNear c.args.letters.now c.args.word.now → ⊥ =
    λ this. (let some = this.1 in omega (arith, counted, some, all, longest)) in
    λ words was. found_on c.args.letters.now words c.args.word.now c.args.found was
    (λ near is this. absurd (far this)) (λ none this. far this)

pub returns-in-Some : goal.returns-in-Some
returns-in-Some c =
    let counted : c.in_ok-distance.distance ≡ distance c.args.letters.now c.args.word.now =
    c.in_ok-distance.ensures ∙ ap (distance c.args.letters.now) c.as_bytes.ensures.value in
    let no_nearer = c.if-other-distance.true in
    λ words was. found_on c.args.letters.now words c.args.word.now c.args.found was
    (λ near is this. let same : near ≡ c.in-Some.other = cc in
    let of_same : near.distance ≡ c.in-Some.other.distance = ap (λ (n : Near). n.distance) same in
    omega (arith, counted, no_nearer, of_same))
    (λ none this. cc)

pub returns-in_default : goal.returns-in_default
returns-in_default c =
    let counted : c.in_ok-distance.distance ≡ distance c.args.letters.now c.args.word.now =
    c.in_ok-distance.ensures ∙ ap (distance c.args.letters.now) c.as_bytes.ensures.value in
    let few = c.if-distance-gt-DISTANCE_MAX.false in
    let some = c.if-distance-max.false in
    let longest = c.max.ensures in
    let near : Near = record { word = c.args.word; distance = c.in_ok-distance.distance } in
    λ words was. found_now c.args.letters.now words c.args.found near was
    (λ other is. elim c.in_default.branch [
      | in_default-via-in-Some+else-other-distance w ↦
          (let same : other ≡ w.in-Some.other = cc in
          let of_same : other.distance ≡ w.in-Some.other.distance = ap (λ (n : Near). n.distance) same in
          let nearer = w.if-other-distance.false in
          omega (arith, of_same, nearer))
      | in_default-via-in_default w ↦ absurd (cc)
    ])
    (omega (arith, counted, few), omega (arith, counted, some, longest)) counted
