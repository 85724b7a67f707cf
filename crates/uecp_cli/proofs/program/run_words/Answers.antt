use Rattle.std.proofs.Common.{◌≡◌, map, refl, inl, inr}
use Rattle.std.specs.String.{string_bytes}
use Rattle.uecp_cli.proofs.Ending.{mistaken_by, asked_by, no_job_by, or_apart}
use Rattle.uecp_cli.proofs.program.run_words.Goals as goal

pub returns-in-Err-clause-mistaken : goal.returns-in-Err-clause-mistaken
returns-in-Err-clause-mistaken g c = λ two.
    let says = c.refuse.ensures.mistaken two in
    inr (
      mistaken_by (map string_bytes c.args.words.now) c.in-Err.usage c.args.errors.now c.refuse.new.errors
          c.in-Err.ensures.refused says.0,
      refl,
      says.1,
    )

pub returns-in-Err-clause-failed : goal.returns-in-Err-clause-failed
returns-in-Err-clause-failed g c = λ three.
    let says = c.refuse.ensures.failed three in
    inr (inr (
      says.0,
      refl,
      elim says.1 [
        | inl asks ↦ inl
            (asked_by (map string_bytes c.args.words.now) c.in-Err.usage c.in-Err.ensures.refused asks)
        | inr same ↦ inr same
      ],
    ))

pub returns-in-Ok-clause-status : goal.returns-in-Ok-clause-status
returns-in-Ok-clause-status g c =
    let words = map string_bytes c.args.words.now in
    let job = c.in-Ok.job in
    let asks = c.in-Ok.ensures.asked in
    or_apart words job asks (λ low. low) (c.run_asked.ensures.status)

pub returns-in-Ok-clause-done : goal.returns-in-Ok-clause-done
returns-in-Ok-clause-done g c = λ zero.
    let words = map string_bytes c.args.words.now in
    let job = c.in-Ok.job in
    let asks = c.in-Ok.ensures.asked in
    or_apart words job asks (λ done. (inl (job, asks, done.0), done.1)) (c.run_asked.ensures.done zero)

pub returns-in-Ok-clause-refused : goal.returns-in-Ok-clause-refused
returns-in-Ok-clause-refused g c = λ one.
    let words = map string_bytes c.args.words.now in
    let job = c.in-Ok.job in
    let asks = c.in-Ok.ensures.asked in
    or_apart words job asks (λ refused. (job, asks, refused)) (c.run_asked.ensures.refused one)

pub returns-in-Ok-clause-mistaken : goal.returns-in-Ok-clause-mistaken
returns-in-Ok-clause-mistaken g c = λ two.
    let words = map string_bytes c.args.words.now in
    let job = c.in-Ok.job in
    let asks = c.in-Ok.ensures.asked in
    or_apart words job asks (λ none. (inr (inr (inr (job, asks, none.0))), none.1, none.2))
    (c.run_asked.ensures.undescribed two)

pub returns-in-Ok-clause-failed : goal.returns-in-Ok-clause-failed
returns-in-Ok-clause-failed g c = λ three.
    let words = map string_bytes c.args.words.now in
    let job = c.in-Ok.job in
    let asks = c.in-Ok.ensures.asked in
    or_apart words job asks (λ stopped. inl (job, asks, stopped)) (c.run_asked.ensures.failed three)

pub returns-in-Ok-clause-kept : goal.returns-in-Ok-clause-kept
returns-in-Ok-clause-kept g c = λ either.
    let words = map string_bytes c.args.words.now in
    let job = c.in-Ok.job in
    let asks = c.in-Ok.ensures.asked in
    or_apart words job asks (λ kept. inr (job, asks, kept)) (c.run_asked.ensures.kept either)

pub returns-in-Ok-clause-comes : goal.returns-in-Ok-clause-comes
returns-in-Ok-clause-comes g c =
    inr (inr (c.in-Ok.job, c.in-Ok.ensures.asked, c.run_asked.ensures.comes))

pub returns-in-Ok-clause-sends : goal.returns-in-Ok-clause-sends
returns-in-Ok-clause-sends g c =
    inr (inr (c.in-Ok.job, c.in-Ok.ensures.asked, c.run_asked.ensures.sends))

pub returns-in-Err-clause-comes : goal.returns-in-Err-clause-comes
returns-in-Err-clause-comes g c =
    let refused = c.refuse.ensures in
    elim (no_job_by (map string_bytes c.args.words.now) c.in-Err.usage c.args.errors.now c.refuse.new.errors
    c.refuse.result c.in-Err.ensures.refused refused.status (λ zero. (refused.text zero).0)
    (λ two. (refused.mistaken two).0) (λ three. (refused.failed three).0)) [
      | inl asks ↦ inl asks
      | inr none ↦ inr (inl none)
    ]

pub returns-in-Err-clause-sends : goal.returns-in-Err-clause-sends
returns-in-Err-clause-sends g c =
    let refused = c.refuse.ensures in
    elim (no_job_by (map string_bytes c.args.words.now) c.in-Err.usage c.args.errors.now c.refuse.new.errors
    c.refuse.result c.in-Err.ensures.refused refused.status (λ zero. (refused.text zero).0)
    (λ two. (refused.mistaken two).0) (λ three. (refused.failed three).0)) [
      | inl asks ↦ inl asks
      | inr none ↦ inr (inl none)
    ]
