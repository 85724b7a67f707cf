-- Messages that are submitted, one after another.
use Rattle.std.proofs.Common.{◌≡◌, ◌≢◌, ℕ, ◌+◌, ◌<◌, get_or, List, [], ◌∷◌, ◌++◌, length, take, false, refl, ◌∙◌, ap}
use Rattle.std.proofs.Common.{arith}
use Rattle.std.proofs.Common.{length-append}
use Rattle.std.proofs.lemmas.List.{take_more}
use Rattle.uecp_link.specs.Counters.{next_counter}
use Rattle.uecp_link.specs.Server.{Held}
use Rattle.uecp_net.specs.Sending.{SenderState, SenderOver, submitted_to, submitted_all}

module _ {C I O : Type 0} where
  abbrev held_by : SenderOver C I O → List Held
  held_by s = s.sender.server.held

  pub all_held : (s : SenderOver C I O) (batch : List (List ℕ))
      → length (held_by (submitted_all s batch)) ≡ length (held_by s) + length batch
  all_held s [] = omega arith
  all_held s (m ∷ batch) =
      let later = all_held (submitted_to s m) batch in
      let h : Held = record { counter = next_counter s.sender.server.last; message = m; marked = false } in
      let one : length (held_by (submitted_to s m)) ≡ length (held_by s) + 1 = length-append (held_by s) (h ∷ []) in
      omega (arith, later, one)

  -- what a batch does not change
  pub all_loan : (s : SenderOver C I O) (batch : List (List ℕ)) → (submitted_all s batch).loan ≡ s.loan
  all_loan s [] = refl
  all_loan s (m ∷ batch) = all_loan (submitted_to s m) batch

  pub all_stays : (s : SenderOver C I O) (batch : List (List ℕ))
      → record (submitted_all s batch).sender { server = s.sender.server; left = s.sender.left } ≡ s.sender
  all_stays s [] = refl
  all_stays s (m ∷ batch) = ap (λ (d : SenderState). record d { server = s.sender.server })
      (all_stays (submitted_to s m) batch)

  -- nor does what is settled after it
  pub submitted_stays : (s mid : SenderOver C I O) (batch : List (List ℕ)) → mid ≡ submitted_all s batch
      → record mid.sender { server = s.sender.server; left = s.sender.left } ≡ s.sender
  submitted_stays s mid batch is =
      ap (λ (d : SenderOver C I O). record d.sender { server = s.sender.server; left = s.sender.left }) is
      ∙ all_stays s batch

  pub settled_stays : (s mid s' : SenderOver C I O) (batch : List (List ℕ)) → mid ≡ submitted_all s batch
      → record s'.sender { server = mid.sender.server; left = mid.sender.left } ≡ mid.sender
      → record s'.sender { server = s.sender.server; left = s.sender.left } ≡ s.sender
  settled_stays s mid s' batch is stays =
      ap (λ (d : SenderState). record d { server = s.sender.server; left = s.sender.left }) stays
      ∙ submitted_stays s mid batch is

  -- some message is held
  pub some_held : (s mid : SenderOver C I O) (batch : List (List ℕ)) → mid ≡ submitted_all s batch → batch ≢ []
      → held_by mid ≢ []
  some_held s mid [] is some none = some refl
  some_held s mid (m ∷ batch) is some none =
      let held = all_held s (m ∷ batch) in
      let same : length (held_by mid) ≡ length (held_by (submitted_all s (m ∷ batch))) =
      ap (λ (d : SenderOver C I O). length (held_by d)) is in
      let no : length (held_by mid) ≡ 0 = ap length none in
      let more : length (m ∷ batch) ≡ length batch + 1 = omega arith in
      absurd (omega (arith, held, same, no, more))

  submitted_append : (s : SenderOver C I O) (batch more : List (List ℕ))
      → submitted_all s (batch ++ more) ≡ submitted_all (submitted_all s batch) more
  submitted_append s [] more = refl
  submitted_append s (m ∷ batch) more = submitted_append (submitted_to s m) batch more

  -- one message more
  pub submitted_on : (s : SenderOver C I O) (batch : List (List ℕ)) (place : ℕ) (d : List ℕ) → place < length batch
      → submitted_all s (take (place + 1) batch) ≡ submitted_to (submitted_all s (take place batch))
      (get_or batch place d)
  submitted_on s batch place d within = ap (submitted_all s) (take_more batch place d within)
      ∙ submitted_append s (take place batch) (get_or batch place d ∷ [])
