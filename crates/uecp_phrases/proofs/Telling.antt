-- What is told behind a first word, where the phrase acts and wherever it may act.
use Rattle.std.proofs.Common.{◌≡◌, ◌||◌, ℕ, Bool, true, false, List, Option, is_some, Result, Err, IfErr, refl, sym}
use Rattle.std.proofs.Common.{subst}
use Rattle.std.proofs.lemmas.Bool.{false≢true}
use Rattle.rds_text.specs.declared.programme_type.Region.{Region}
use Rattle.phrase_tokens.specs.Tokens.{Token}
use Rattle.uecp_phrases.specs.declared.head.Head.{Head}
use Rattle.uecp_phrases.specs.declared.head.Head.TheVariants as head
use Rattle.uecp_phrases.specs.declared.stop.Stop.{Stop}
use Rattle.uecp_phrases.specs.Phrases.{Tells}
use Rattle.uecp_phrases.specs.Reading.{or_zero}
use Rattle.uecp_phrases.specs.Expecting.{acts_somewhere, IsStop}
use Rattle.uecp_phrases.specs.Stops.{Told}
use Rattle.uecp_phrases.proofs.Stopping.{err_is}

-- Where a phrase of this head stops, one of the head that is meant does.
pub stop_told : {A : Type 0} (r : Result A Stop) (stop : Stop) (region : Region) (h own : Head) (tokens : List Token)
    → h ≡ own → r ≡ Err stop → IsStop region (Told region own) tokens stop.what stop.left
    → IfErr r (λ s. IsStop region (Told region h) tokens s.what s.left)
stop_told r stop region h own tokens h_is is stops =
    err_is r stop _ is
    (subst (λ k. IsStop region (Told region k) tokens stop.what stop.left) (sym h_is) stops)

pub unplaced : (placed : Bool) → (placed ≡ true → false ≡ true) → placed ≡ false
unplaced true may = absurd (false≢true (may refl))
unplaced false may = refl

-- What is told is told there too, where the phrase may act there.
pub told_placed : (region : Region) (h : Head) (placed : Bool) (dsn psn : ℕ) (tokens : List Token) (bytes : List ℕ)
    → (placed ≡ true → acts_somewhere h ≡ true) → Tells region h false dsn psn tokens bytes
    → Tells region h placed dsn psn tokens bytes
told_placed region head.Pi placed dsn psn tokens bytes may told = told
told_placed region head.Ps placed dsn psn tokens bytes may told = told
told_placed region head.Rt placed dsn psn tokens bytes may told = told
told_placed region head.Traffic placed dsn psn tokens bytes may told = told
told_placed region head.Ta placed dsn psn tokens bytes may told = told
told_placed region head.Tp placed dsn psn tokens bytes may told = told
told_placed region head.Music placed dsn psn tokens bytes may told = told
told_placed region head.Speech placed dsn psn tokens bytes may told = told
told_placed region head.Ms placed dsn psn tokens bytes may told = told
told_placed region head.Pty placed dsn psn tokens bytes may told = told
told_placed region head.Set placed dsn psn tokens bytes may (_, told) = (unplaced placed may, told)
told_placed region head.Group placed dsn psn tokens bytes may (_, told) = (unplaced placed may, told)
told_placed region head.Ack placed dsn psn tokens bytes may (_, told) = (unplaced placed may, told)
told_placed region head.Raw placed dsn psn tokens bytes may (_, are, some) = (unplaced placed may, are, some)

-- And in the set and for the service that are meant.
pub told_at : (region : Region) (h : Head) (dsn psn : ℕ) (set service : Option ℕ) (tokens : List Token)
    (bytes : List ℕ) → dsn ≡ or_zero set → psn ≡ or_zero service
    → ((is_some set || is_some service) ≡ true → acts_somewhere h ≡ true) → Tells region h false dsn psn tokens bytes
    → Tells region h (is_some set || is_some service) (or_zero set) (or_zero service) tokens bytes
told_at region h dsn psn set service tokens bytes dsn_is psn_is may told =
    told_placed region h (is_some set || is_some service) (or_zero set) (or_zero service) tokens bytes may
    (subst (λ n. Tells region h false n (or_zero service) tokens bytes) dsn_is
    (subst (λ n. Tells region h false dsn n tokens bytes) psn_is told))
