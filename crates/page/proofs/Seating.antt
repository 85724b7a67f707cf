-- The seats of those who ask, taken one after another.
use Rattle.std.proofs.Common.{◌≡◌, ◌≤◌, ◌<◌, ◌+◌, ℕ, List, [], ◌∷◌, ◌++◌, length, take, get_or, ap, sym, ◌∙◌}
use Rattle.std.proofs.lemmas.List.{take_more, take_all, map-append}
use Rattle.seats.specs.declared.seat.Seat.{Seat}
use Rattle.page.specs.declared.guests.guest.Guest.{Guest}
use Rattle.page.specs.declared.guests.room.Kind.{Kind}
use Rattle.page.specs.EventPlaces.{seat_of, seats_of}

module _ {C : Type 0} (origin : C → ℕ) (kind : Kind) (guests : List (Guest C)) where
  pub seats_more : (i : ℕ) (x : Guest C) (before after : List Seat) (s : Seat) → i < length guests
      → x ≡ get_or guests i x → s ≡ seat_of origin kind x → before ≡ seats_of origin kind (take i guests)
      → after ≡ before ++ s ∷ [] → after ≡ seats_of origin kind (take (i + 1) guests)
  seats_more i x before after s few is seat_is before_is after_is =
      let more : seats_of origin kind (take (i + 1) guests)
      ≡ seats_of origin kind (take i guests) ++ seat_of origin kind (get_or guests i x) ∷ [] =
      ap (λ (gs : List (Guest C)). seats_of origin kind gs) (take_more guests i x few)
      ∙ map-append (seat_of origin kind) (take i guests) (get_or guests i x ∷ []) in
      let one : s ≡ seat_of origin kind (get_or guests i x) = seat_is ∙ ap (seat_of origin kind) is in
      after_is ∙ ap (λ xs. xs ++ s ∷ []) before_is
      ∙ ap (λ t. seats_of origin kind (take i guests) ++ t ∷ []) one ∙ sym more

  pub seats_all : (i : ℕ) (all : List Seat) → length guests ≤ i → all ≡ seats_of origin kind (take i guests)
      → all ≡ seats_of origin kind guests
  seats_all i all over is =
      is ∙ ap (λ (gs : List (Guest C)). seats_of origin kind gs) (take_all i guests over)
