-- What a server's image says is read as it was.
use Rattle.std.proofs.Common.{◌≡◌, ℕ, suc, ◌+◌, ◌*◌, ◌/◌, ◌%◌, ◌<◌, ◌≤◌, ◌^◌, Bool, true, false, List, [], ◌∷◌}
use Rattle.std.proofs.Common.{◌++◌, length, map, flat_map, Option, Some, None, refl, ap, sym, ◌∙◌, arith, append_assoc}
use Rattle.std.specs.Option.{option_map, option_and_then}
use Rattle.std.specs.Prelude.{nat_le, not, ◌&&◌, ◌||◌, ◌==◌}
use Rattle.std.proofs.lemmas.Bool.{le-ltb, leb-true, false≢true}
use Rattle.std.proofs.lemmas.List.{length-map}
use Rattle.std.proofs.lemmas.Nat.{from_be_bytes-to_be_bytes_8}
use Rattle.uecp_link.specs.Server.{Held, ServerState, restarted_server}
use Rattle.uecp_link.specs.Resuming.{kept_of, is_oldest_kept_marked, resumed_at, IsServer}
use Rattle.uecp_link.specs.declared.kept_message.KeptMessage.{KeptMessage}
use Rattle.end_images.specs.Images.{flag, held_bytes, server_content}
use Rattle.end_images.specs.Parsing.{kept_first, kept_each, kept_few, with_mark, server_parts, ServerSays}
use Rattle.end_images.proofs.Apart.{split_whole}

pub first_back : (h : Held) (more : List ℕ) → kept_first (held_bytes h ++ more) ≡ Some (kept_of h, more)
unfolding kept_first
first_back h more = go h.marked
  where
    go : (b : Bool) → kept_first (flag b ∷ length h.message ∷ (h.message ++ more))
        ≡ Some (record { message = h.message; marked = b }, more)
    go true = ap (option_map (with_mark true)) (split_whole h.message more)
    go false = ap (option_map (with_mark false)) (split_whole h.message more)

pub each_back : (hs : List Held) → kept_each (length hs) (flat_map held_bytes hs) ≡ Some (map kept_of hs)
each_back [] = refl
each_back (h ∷ hs) =
    ap (λ o. option_and_then (λ first. option_map (λ ms. first.0 ∷ ms) (kept_each (length hs) first.1)) o)
    (first_back h (flat_map held_bytes hs))
    ∙ ap (option_map (λ ms. kept_of h ∷ ms)) (each_back hs)

address_back : (a : ℕ) → a / 256 * 256 + a % 256 ≡ a
address_back a = omega arith

-- What the content of a server's image says.
abbrev pub says_server : (joined : Bool) (taken : ℕ) → ServerState → ServerSays
says_server joined taken s = record {
  address = s.address;
  joined = flag joined;
  taken = taken;
  last = s.last;
  count = length s.held;
  messages = flat_map held_bytes s.held;
}

pub server_back : (joined : Bool) (taken : ℕ) (s : ServerState) → taken < 2 ^ 64
    → server_parts (server_content joined taken s) ≡ Some (says_server joined taken s)
server_back joined taken s fits =
    ap (λ (n : ℕ). Some (record (says_server joined taken s) {
      address = s.address / 256 * 256 + s.address % 256;
      taken = n;
    })) (from_be_bytes-to_be_bytes_8 taken fits)
    ∙ ap (λ (a : ℕ). Some (record (says_server joined taken s) { address = a })) (address_back s.address)

-- ---- So many messages.

behind : (items : List KeptMessage) (message : KeptMessage) (o : Option (List KeptMessage))
    → option_map (λ ms. (items ++ message ∷ []) ++ ms) o
    ≡ option_map (λ ms. items ++ ms) (option_map (λ ms. message ∷ ms) o)
behind items message None = refl
behind items message (Some ms) = ap Some (append_assoc items (message ∷ []) ms)

-- One message more was read.
pub each_step : (items : List KeptMessage) (n : ℕ) (rest more : List ℕ) (message : KeptMessage)
    (all : Option (List KeptMessage)) → kept_first rest ≡ Some (message, more)
    → option_map (λ ms. items ++ ms) (kept_each (suc n) rest) ≡ all
    → option_map (λ ms. (items ++ message ∷ []) ++ ms) (kept_each n more) ≡ all
each_step items n rest more message all first before =
    behind items message (kept_each n more)
    ∙ ap (λ o. option_map (λ ms. items ++ ms)
    (option_and_then (λ f. option_map (λ ms. f.0 ∷ ms) (kept_each n f.1)) o)) (sym first)
    ∙ before

pub few_back : (s : ServerState) → IsServer s
    → kept_few (length s.held) (flat_map held_bytes s.held) ≡ Some (map kept_of s.held)
few_back s is = few (nat_le (length (map kept_of s.held)) 8) refl is.can
  where
    few : (b : Bool) → nat_le (length (map kept_of s.held)) 8 ≡ b
        → (b && (not (is_oldest_kept_marked (map kept_of s.held))
        && (not (s.last == 0) || length (map kept_of s.held) == 0))) ≡ true
        → kept_few (length s.held) (flat_map held_bytes s.held) ≡ Some (map kept_of s.held)
    few false e h = absurd (false≢true h)
    few true e h =
        let at_most : length s.held ≤ 8 =
        omega (arith, leb-true (length (map kept_of s.held)) 8 e, length-map s.held kept_of) in
        rw (le-ltb 8 (length s.held) at_most) (each_back s.held)

pub resumed_back : (s : ServerState) → IsServer s
    → resumed_at s.address s.last (map kept_of s.held) ≡ Some (restarted_server s)
resumed_back s is =
    rw is.can (ap (λ (hs : List Held). Some (record (restarted_server s) { held = hs })) (sym is.in_turn))

-- ---- Marks.

abbrev pub is_flagged : ℕ → Bool
is_flagged n = n == 1

pub flagged : (b : Bool) → is_flagged (flag b) ≡ b
flagged true = refl
flagged false = refl
