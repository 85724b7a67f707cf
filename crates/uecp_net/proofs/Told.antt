-- What the acknowledgements that came leave of a server, and the codes that they tell.
use Rattle.std.proofs.Common.{◌≡◌, ◌⊎◌, ℕ, ◌+◌, ◌==◌, ◌||◌, true, Bool, false, All, List, [], ◌∷◌, ◌++◌, length, map}
use Rattle.std.proofs.Common.{Option, Some, None, IsSome, refl, subst, sym, ap, ◌∙◌, arith, inl, inr, append_assoc}
use Rattle.std.proofs.Common.{append-nil, length-append, eq-eqb}
use Rattle.std.specs.Option.{option_or}
use Rattle.std.proofs.lemmas.Bool.{cases_Bool}
use Rattle.std.proofs.lemmas.List.{length-map}
use Rattle.std.proofs.lemmas.List.Elements.{All-nil, All-cons}
use Rattle.uecp_frame.specs.Findings.{Closed}
use Rattle.uecp_elements.specs.declared.code.Code.{Code}
use Rattle.uecp_link.specs.Server.{ServerState, waiting, waits_for, heard, raised_by, counters_waiting}
use Rattle.uecp_link.specs.Window.{marks_in, code_under}
use Rattle.uecp_link.proofs.Public.{heard_keeps, raised_by-add, marks_counted, code_under-append, marks_complete}
use Rattle.uecp_net.specs.Sending.{SenderOver, Marks, GoesOn, Follows, AreFreed, AreTold}

pub follows_heard : (s s' : ServerState) (m m' : Marks) (read : List ℕ) → s' ≡ heard s read → m' ≡ m ++ marks_in s read
    → length m' + length (waiting s') ≡ length m + length (waiting s) → Follows s s' m m'
follows_heard s s' m m' read state marked number = record {
  more = marks_in s read;
  marked = marked;
  address = ap (λ (d : ServerState). d.address) state ∙ (heard_keeps s read).0;
  last = ap (λ (d : ServerState). d.last) state ∙ (heard_keeps s read).1;
  counted = ap (λ (d : ServerState). d.counts.acknowledged) state ∙ marks_counted s read;
  number = omega (arith, number, ap length marked, length-append m (marks_in s read));
  complete = λ counter before after. marks_complete counter s read before
      (sym (ap (λ (d : ServerState). waits_for (waiting d) counter) state) ∙ after);
}

-- nothing came, and what was open was forgotten or not
follows_same : (s start : ServerState) (m : Marks) → ((start ≡ s) ⊎ (start ≡ record s { part = Closed }))
    → Follows s start m m
follows_same s start m starts = record {
  more = [];
  marked = sym (append-nil m);
  address = elim starts [
    | inl same ↦ ap (λ (d : ServerState). d.address) same
    | inr lost ↦ ap (λ (d : ServerState). d.address) lost
  ];
  last = elim starts [
    | inl same ↦ ap (λ (d : ServerState). d.last) same
    | inr lost ↦ ap (λ (d : ServerState). d.last) lost
  ];
  counted = elim starts [
    | inl same ↦ ap (λ (d : ServerState). d.counts.acknowledged) same
    | inr lost ↦ ap (λ (d : ServerState). d.counts.acknowledged) lost
  ];
  number = let same : length (waiting start) ≡ length (waiting s) =
      elim starts [
        | inl same ↦ ap (λ (d : ServerState). length (waiting d)) same
        | inr lost ↦ ap (λ (d : ServerState). length (waiting d)) lost
      ] in omega (arith, same);
  complete = λ counter before after. absurd (let same : waits_for (waiting start) counter
      ≡ waits_for (waiting s) counter =
      elim starts [
        | inl same ↦ ap (λ (d : ServerState). waits_for (waiting d) counter) same
        | inr lost ↦ ap (λ (d : ServerState). waits_for (waiting d) counter) lost
      ] in cc);
}

pub follows_start : {C I O : Type 0} (opens : C → Option (I × O) → C → Type 0) (s start : SenderOver C I O) (m : Marks)
    → GoesOn opens s start → Follows s.sender.server start.sender.server m m
follows_start opens s start m goes_on = follows_same s.sender.server start.sender.server m (elim goes_on [
  | inl (has, same) ↦ inl (ap (λ (d : SenderOver _ _ _). d.sender.server) same)
  | inr (none, (input, output, opened, is)) ↦ inr (ap (λ (d : SenderOver _ _ _). d.sender.server) is)
])

some_or : (a b : Option Code) → IsSome a → IsSome (option_or a b)
some_or None b some = absurd (cc)
some_or (Some code) b some = refl

or_some : (a b : Option Code) → IsSome b → IsSome (option_or a b)
or_some None b some = some
or_some (Some code) b some = refl

pub follows_on : (a b c : ServerState) (m n o : Marks) → Follows a b m n → Follows b c n o → Follows a c m o
follows_on a b c m n o first second = record {
  more = first.more ++ second.more;
  marked = second.marked ∙ ap (λ l. l ++ second.more) first.marked ∙ append_assoc m first.more second.more;
  address = second.address ∙ first.address;
  last = second.last ∙ first.last;
  counted =
      second.counted ∙ ap (raised_by (length second.more)) first.counted
      ∙ sym (raised_by-add (length first.more) (length second.more) a.counts.acknowledged)
      ∙ ap (λ n. raised_by n a.counts.acknowledged) (sym (length-append first.more second.more));
  number = omega (arith, first.number, second.number, length-append first.more second.more);
  complete = λ counter before after. subst IsSome (sym (code_under-append counter first.more second.more))
      (elim (cases_Bool (waits_for (waiting b) counter)) [
        | inl still ↦ or_some (code_under counter first.more) (code_under counter second.more)
            (second.complete counter still after)
        | inr gone ↦ some_or (code_under counter first.more) (code_under counter second.more)
            (first.complete counter before gone)
      ]);
}

or_yes : (b : Bool) → (b || true) ≡ true
or_yes true = refl
or_yes false = refl

module _ (old new : ServerState) (marks : Marks) (follows : Follows old new [] marks) (idle : new.held ≡ []) where
  none_waits : length (waiting new) ≡ 0
  none_waits = ap (λ hs. length (waiting (record new { held = hs }))) idle

  pub are_freed : AreFreed old new
  are_freed =
      let each : length follows.more ≡ length (waiting old) = omega (arith, follows.number, none_waits) in
      let all : new.counts.acknowledged ≡ raised_by (length (waiting old)) old.counts.acknowledged =
      follows.counted ∙ ap (λ n. raised_by n old.counts.acknowledged) each in
      ap (λ address. record new { address = address }) follows.address
      ∙ ap (λ last. record new { address = old.address; last = last }) follows.last
      ∙ ap (λ held. record new { address = old.address; last = old.last; held = held }) idle
      ∙ ap (λ count. record new {
        address = old.address;
        last = old.last;
        held = [];
        counts = record new.counts { acknowledged = count };
      }) all

  told_for : (counter : ℕ) → waits_for (waiting old) counter ≡ true → IsSome (code_under counter marks)
  told_for counter before =
      subst (λ l. IsSome (code_under counter l)) (sym follows.marked)
      (follows.complete counter before (ap (λ hs. waits_for (waiting (record new { held = hs })) counter) idle))

  all_told_among : (ws : List (ℕ × List ℕ)) (P : ℕ → Type 0) → ((counter : ℕ) → waits_for ws counter ≡ true → P counter)
      → All P (map (λ w. w.0) ws)
  all_told_among [] P each = All-nil P
  all_told_among (w ∷ ws) P each =
      All-cons P w.0 (map (λ w. w.0) ws) (each w.0 (ap (λ b. b || waits_for ws w.0) (eq-eqb w.0 w.0 refl)))
      (all_told_among ws P (λ counter waits. each counter
      (ap (λ b. (w.0 == counter) || b) waits ∙ or_yes (w.0 == counter))))

  pub all_told : All (λ counter. IsSome (code_under counter marks)) (counters_waiting old)
  all_told = all_told_among (waiting old) (λ counter. IsSome (code_under counter marks)) told_for

pub told_number : (s : ServerState) (marks : Marks) (told : List Code) → AreTold s marks told
    → length told ≡ length (waiting s)
told_number s marks told are =
    sym (length-map told Some) ∙ ap length are ∙ length-map (counters_waiting s) (λ counter. code_under counter marks)
    ∙ length-map (waiting s) (λ w. w.0)
