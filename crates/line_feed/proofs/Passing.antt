-- What a read and a taken line do to what is left: what is held, and then what the source has left.
use Rattle.std.proofs.Common.{◌≡◌, ◌≢◌, ℕ, ◌+◌, ◌<◌, ◌≤◌, ◌⊎◌, Result, Ok, Err, IfOk, List, [], ◌∷◌, ◌++◌, length, take}
use Rattle.std.proofs.Common.{drop, refl, ◌∙◌, ap, sym, subst}
use Rattle.std.proofs.Common.{arith, inl, inr, None, Some, Option, append_assoc, append-nil, length-append}
use Rattle.std.proofs.Common.{take-append-drop}
use Rattle.std.specs.Io.KnownBytes.{Consumes, Keeps, IsAtEnd, prepend_known}
use Rattle.std.proofs.KnownBytes.{Consumes-trans, Keeps-refl}
use Rattle.std.proofs.lemmas.List.Elements.{All-nil, All-append}
use Rattle.uecp_text.specs.Input.{lines_of}
use Rattle.line_feed.specs.declared.feed.Next.{Next}
use Rattle.line_feed.specs.declared.feed.Next.TheVariants.{Line, TooLong, End}
use Rattle.line_feed.specs.declared.feed_fault.FeedFault.{FeedFault}
use Rattle.line_feed.specs.declared.feed_fault.FeedFault.TheVariants.{Reading}
use Rattle.line_feed.specs.Lines.{HasNoEnd, IsFirstLine, IsNext, IsUntaken}
use Rattle.line_feed.specs.Parts.{EndsFirst, IsPut}
use Rattle.line_feed.proofs.Splitting.{lines_of-nil, lines_of-line, lines_of-last}

-- a read brought these bytes
pub keeps_on : (left source source' : Option (List ℕ)) (held held' bytes : List ℕ)
    → Keeps left (prepend_known held source)
    → held' ≡ held ++ bytes → Consumes source source' bytes → Keeps left (prepend_known held' source')
keeps_on None source source' held held' bytes kept grown read = tt
keeps_on (Some all) None source' held held' bytes kept grown read = absurd kept
keeps_on (Some all) (Some more) None held held' bytes kept grown read = absurd read
keeps_on (Some all) (Some more) (Some more') held held' bytes kept grown read =
    ap (λ l. l ++ more') grown ∙ append_assoc held bytes more' ∙ ap (λ l. held ++ l) (sym read) ∙ kept

-- a front of what is held was taken
pub takes_front : (left source : Option (List ℕ)) (held front rest : List ℕ) → Keeps left (prepend_known held source)
    → held ≡ front ++ rest → Consumes left (prepend_known rest source) front
takes_front None source held front rest kept parts = tt
takes_front (Some all) None held front rest kept parts = absurd kept
takes_front (Some all) (Some more) held front rest kept parts =
    sym kept ∙ ap (λ l. l ++ more) parts ∙ append_assoc front rest more

-- nothing is held, and the source is at its end
pub ends_all : (source : Option (List ℕ)) (held : List ℕ) → held ≡ [] → IsAtEnd source
    → IsAtEnd (prepend_known held source)
ends_all None held none over = tt
ends_all (Some more) held none over = ap (λ l. l ++ more) none ∙ over

parted : (held rest : List ℕ) (count : ℕ) → rest ≡ drop count held → held ≡ take count held ++ rest
parted held rest count e = sym (take-append-drop count held) ∙ ap (λ l. take count held ++ l) (sym e)

-- the front of what is held, up to its first line feed, is the first line
pub first_is_line : (left source : Option (List ℕ)) (held rest : List ℕ) (count : ℕ)
    → Keeps left (prepend_known held source) → EndsFirst held count → rest ≡ drop count held
    → IsFirstLine left (prepend_known rest source) (take count held)
first_is_line left source held rest count kept first e = record {
  taken = takes_front left source held (take count held) rest kept (parted held rest count e);
  one = ap lines_of first.front ∙ lines_of-line first.text [] first.no_end
      ∙ ap (λ l. (first.text ++ 0x0A ∷ []) ∷ l) lines_of-nil ∙ ap (λ l. l ∷ []) (sym first.front);
  ended = inl (first.text, first.front);
}

-- all that is held is the last line
pub last_is_line : (left source : Option (List ℕ)) (held rest : List ℕ) → Keeps left (prepend_known held source)
    → HasNoEnd held → 0 < length held → rest ≡ [] → IsAtEnd source → IsFirstLine left (prepend_known rest source) held
last_is_line left source held rest kept no_end some none over = record {
  taken = takes_front left source held held rest kept (sym (append-nil held) ∙ ap (λ l. held ++ l) (sym none));
  one = lines_of-last held some no_end;
  ended = inr (ends_all source rest none over);
}

-- a line that was put into what is held, or passed over, came next
pub put_is_next : (left left' : Option (List ℕ)) (line held : List ℕ) (next : Next) → IsFirstLine left left' line
    → IsPut line held next → IsNext left left' held next
put_is_next left left' line held Line first (same, short) =
    (subst (IsFirstLine left left') (sym same) first, subst (λ l. length l ≤ 65536) (sym same) short)
put_is_next left left' line held TooLong first (none, long) = (line, first, long, none)
put_is_next left left' line held End first put = absurd put

-- the first line was put into what is held, or passed over
pub first_taken : (left source : Option (List ℕ)) (held rest line : List ℕ) (count : ℕ) (result : Result Next FeedFault)
    → Keeps left (prepend_known held source) → EndsFirst held count
    → IfOk result (λ next. (rest ≡ drop count held) × IsPut (take count held) line next)
    → IfOk result (IsNext left (prepend_known rest source) line)
first_taken left source held rest line count (Err fault) kept first put = tt
first_taken left source held rest line count (Ok next) kept first (e, put) =
    put_is_next left (prepend_known rest source) (take count held) line next
    (first_is_line left source held rest count kept first e) put

-- the last line was put into what is held; or nothing was left
pub last_taken : (left source : Option (List ℕ)) (held rest line : List ℕ) (result : Result Next FeedFault)
    → Keeps left (prepend_known held source) → HasNoEnd held → IsAtEnd source
    → (length held ≡ 0 → (result ≡ Ok End) × (rest ≡ []) × (line ≡ []))
    → (0 < length held → IfOk result (λ next. (rest ≡ []) × IsPut held line next))
    → IfOk result (IsNext left (prepend_known rest source) line)
last_taken left source [] rest line result kept no_end over none put =
    let parts = none refl in
    subst (λ r. IfOk r (IsNext left (prepend_known rest source) line)) (sym parts.0) (
      subst (λ r. Keeps left (prepend_known r source)) (sym parts.1) kept,
      ends_all source rest parts.1 over,
      parts.2,
    )
last_taken left source (byte ∷ held) rest line (Err fault) kept no_end over none put = tt
last_taken left source (byte ∷ held) rest line (Ok next) kept no_end over none put =
    let some : 0 < length (byte ∷ held) = omega arith in
    let parts = put some in
    put_is_next left (prepend_known rest source) (byte ∷ held) line next
    (last_is_line left source (byte ∷ held) rest kept no_end some parts.0 over) parts.1

-- ---- a line that is passed over

-- a beginning of a line was passed over, and what is held goes on with it
pub record Passes (left : Option (List ℕ)) (held : List ℕ) (source : Option (List ℕ)) : Type 0 where
  pub gone : List ℕ
  pub taken : Consumes left (prepend_known held source) gone
  pub no_end : HasNoEnd gone
  pub held_no_end : HasNoEnd held
  pub long : 65536 < length gone + length held
  pub begun : (gone ≡ []) ⊎ (65536 < length gone)

-- a beginning of a line was passed over
abbrev pub IsPast : (left left' : Option (List ℕ)) → Type 0
IsPast left left' = (gone : List ℕ) × Consumes left left' gone × HasNoEnd gone × (65536 < length gone)

gone_on : (left source source' : Option (List ℕ)) (gone held held' bytes : List ℕ)
    → Consumes left (prepend_known held source) gone → held' ≡ bytes → Consumes source source' bytes
    → Consumes left (prepend_known held' source') (gone ++ held)
gone_on None source source' gone held held' bytes taken new read = tt
gone_on (Some all) None source' gone held held' bytes taken new read = absurd taken
gone_on (Some all) (Some more) None gone held held' bytes taken new read = absurd read
gone_on (Some all) (Some more) (Some more') gone held held' bytes taken new read =
    taken ∙ ap (λ l. gone ++ (held ++ l)) (read ∙ ap (λ l. l ++ more') (sym new))
    ∙ sym (append_assoc gone held (held' ++ more'))

-- what was held was passed over, and a read brought these bytes
pub past_on : (left source source' : Option (List ℕ)) (held held' bytes : List ℕ) → Passes left held source
    → held' ≡ [] ++ bytes → Consumes source source' bytes → IsPast left (prepend_known held' source')
past_on left source source' held held' bytes so_far new read = (
  so_far.gone ++ held,
  gone_on left source source' so_far.gone held held' bytes so_far.taken new read,
  All-append (λ byte. byte ≢ 0x0A) so_far.gone held so_far.no_end so_far.held_no_end,
  (let n = length-append so_far.gone held in let long = so_far.long in omega (arith, n, long)),
)

pub passes_first : (left source : Option (List ℕ)) (held : List ℕ) → Keeps left (prepend_known held source)
    → HasNoEnd held
    → 65536 < length held → Passes left held source
passes_first left source held kept no_end long = record {
  gone = [];
  taken = takes_front left source held [] held kept refl;
  no_end = All-nil (λ byte. byte ≢ 0x0A);
  held_no_end = no_end;
  long = omega (arith, long);
  begun = inl refl;
}

pub passes_on : (left source : Option (List ℕ)) (held : List ℕ) → IsPast left (prepend_known held source)
    → HasNoEnd held
    → Passes left held source
passes_on left source held (gone, taken, no_end, long) none = record {
  gone = gone;
  taken = taken;
  no_end = no_end;
  held_no_end = none;
  long = omega (arith, long);
  begun = inr long;
}

none_taken : (left left' : Option (List ℕ)) (bytes : List ℕ) → Consumes left left' bytes → bytes ≡ [] → Keeps left left'
none_taken None left' bytes taken none = tt
none_taken (Some all) None bytes taken none = absurd taken
none_taken (Some all) (Some rest) bytes taken none = sym (taken ∙ ap (λ l. l ++ rest) none)

-- passing over was given up
pub passes_untaken : (left source : Option (List ℕ)) (held : List ℕ) → Passes left held source
    → IsUntaken left (prepend_known held source) Reading
passes_untaken left source held so_far =
    elim so_far.begun [
      | inl none ↦ inl (none_taken left (prepend_known held source) so_far.gone so_far.taken none)
      | inr long ↦ inr (refl, (so_far.gone, so_far.taken, so_far.no_end, long))
    ]

-- the input ends in a line that is passed over
pub past_at_end : (left source : Option (List ℕ)) (held : List ℕ) → IsPast left (prepend_known held source) → held ≡ []
    → IsAtEnd source → IsNext left (prepend_known held source) [] TooLong
past_at_end left source held (gone, taken, no_end, long) none over = (
  gone,
  record {
    taken = taken;
    one = lines_of-last gone (omega (arith, long)) no_end;
    ended = inr (ends_all source held none over);
  },
  long,
  refl,
)

-- the line that is passed over ends in what is held
pub past_first : (left source : Option (List ℕ)) (held rest : List ℕ) (count : ℕ)
    → IsPast left (prepend_known held source) → EndsFirst held count → rest ≡ drop count held
    → IsNext left (prepend_known rest source) [] TooLong
past_first left source held rest count (gone, taken, no_end, long) first e =
    let front = take count held in
    let before = gone ++ first.text in
    let ends : gone ++ front ≡ before ++ 0x0A ∷ [] = ap (λ l. gone ++ l) first.front
    ∙ sym (append_assoc gone first.text (0x0A ∷ [])) in
    let none = All-append (λ byte. byte ≢ 0x0A) gone first.text no_end first.no_end in (
      gone ++ front,
      record {
        taken = Consumes-trans left (prepend_known held source) (prepend_known rest source) gone front taken
            (takes_front (prepend_known held source) source held front rest (Keeps-refl (prepend_known held source))
            (parted held rest count e));
        one = ap lines_of ends ∙ lines_of-line before [] none ∙ ap (λ l. (before ++ 0x0A ∷ []) ∷ l) lines_of-nil
            ∙ ap (λ l. l ∷ []) (sym ends);
        ended = inl (before, ends);
      },
      (let n = length-append gone front in omega (arith, n, long)),
      refl,
    )
