-- What is kept follows from the image that the rows hold.
use Rattle.std.proofs.Common.{◌≡◌, ◌⊎◌, inl, inr, ℕ, ◌<◌, ◌^◌, List, [], ◌∷◌, ◌++◌, drop, Some, refl, sym, ap, subst}
use Rattle.std.proofs.Common.{◌∙◌}
use Rattle.sqlite.specs.Order.{column}
use Rattle.sqlite.specs.declared.types.Value.TheVariants.{Blob}
use Rattle.sqlite.specs.Tree.{Trees}
use Rattle.sqlite.specs.Store.{Ghosts}
use Rattle.uecp_frame.specs.Frame.{high_first}
use Rattle.uecp_link.specs.Server.{ServerState}
use Rattle.uecp_link.specs.Resuming.{IsServer}
use Rattle.uecp_net.specs.declared.saved.keep.Progress.{Progress}
use Rattle.uecp_net.specs.Keeping as sending
use Rattle.sqlite_image.specs.Kept.{Holds}
use Rattle.sqlite_image.specs.Keeper.{Keeper, MayLeave, Keeps}
use Rattle.end_images.specs.declared.server_parts.KeptServer.{KeptServer}
use Rattle.end_images.specs.Images.{sealed, server_content, server_image}
use Rattle.end_images.specs.Laws.{SaysServer}
use Rattle.end_images.specs.Reading.{IsKeptServer}
use Rattle.state_files.specs.Saving.{Leaves, ImagesTell}
use Rattle.state_files.specs.Servers.{IsServerSoFar, image_of}
use Rattle.state_files.proofs.Sealed.{sealed_same}

-- rows hold at most one image
one_image : (version : ℕ) (p q : List ℕ) (rows : Trees) → Holds version (Some p) rows → Holds version (Some q) rows
    → p ≡ q
one_image version p q rows (a, is, inl none) (b, same, other) = absurd (let e = none.1 in cc)
one_image version p q rows (a, is, inr x) (b, same, inl none) = absurd (let e = none.1 in cc)
one_image version p q rows (a, is, inr x) (b, same, inr y) =
    let one : x.row ∷ [] ≡ y.row ∷ [] = sym x.only ∙ ap (λ (t : Trees). t 0) (sym is ∙ same) ∙ y.only in
    let row : x.row ≡ y.row = cc in
    let blob : Blob p ≡ Blob q = sym x.image_is ∙ ap (λ r. column r 3) row ∙ y.image_is in
    cc

-- ---- Servers.

-- the address is no part of what is kept
abbrev at : Progress → ServerState → KeptServer
at progress s = record { joined = progress.joined; taken = progress.taken; server = record s { address = 65 } }

module _ (law : SaysServer) where
  told : (p q : Progress) (s t : ServerState) → IsServer s → IsServer t → p.taken < 2 ^ 64 → q.taken < 2 ^ 64
      → image_of p s ≡ image_of q t → sending.kept_of p s ≡ sending.kept_of q t
  told p q s t is_s is_t fits_p fits_q same =
      let first : IsKeptServer (at p s) = record {
        exact = refl;
        taken = fits_p;
        server = record { last = is_s.last; can = is_s.can; in_turn = is_s.in_turn };
      } in
      let second : IsKeptServer (at q t) = record {
        exact = refl;
        taken = fits_q;
        server = record { last = is_t.last; can = is_t.can; in_turn = is_t.in_turn };
      } in
      let moved : server_image p.joined p.taken (record s { address = 65 })
      ≡ server_image q.joined q.taken (record t { address = 65 }) =
      ap (λ b. sealed (0x01 ∷ 0x53 ∷ (high_first 65 ++ drop 4 b)))
      (sealed_same (0x01 ∷ 0x53 ∷ server_content p.joined p.taken s) (0x01 ∷ 0x53 ∷ server_content q.joined q.taken t)
      same)
      in
      ap (λ (k : KeptServer). record {
        last = k.server.last;
        held = k.server.held;
        taken = k.taken;
        joined = k.joined;
      }) (law (at p s) (at q t) first second moved)

  pub servers_told : ImagesTell image_of IsServerSoFar sending.kept_of
  servers_told p q s t is_s is_t same = told p q s t is_s.0 is_t.0 is_s.1 is_t.1 same

-- ---- Any end.

module _ {S P E V : Type 0} (g : Ghosts S) (image : P → E → List ℕ) (is_end : P → E → Type 0) (kept_of : P → E → V)
    (law : ImagesTell image is_end kept_of) (k : Keeper S) (p : P) (e : E) (is : is_end p e) where
  pub end_saved : Keeps g k (Some (image p e)) → (left : V) → Leaves g image is_end kept_of k left
      → left ≡ kept_of p e
  end_saved keeps left l =
      l.is_kept ∙ law l.progress p l.end e l.is is
      (one_image k.version (image l.progress l.end) (image p e) l.rows l.holds (keeps.every l.rows l.may))

  pub end_either : (old : Keeper S) → k.version ≡ old.version
      → ((rows : Trees) → MayLeave g k rows → MayLeave g old rows ⊎ Holds old.version (Some (image p e)) rows)
      → (left : V) → Leaves g image is_end kept_of k left
      → Leaves g image is_end kept_of old left ⊎ (left ≡ kept_of p e)
  end_either old same either left l =
      let holds : Holds old.version (Some (image l.progress l.end)) l.rows =
      subst (λ v. Holds v (Some (image l.progress l.end)) l.rows) same l.holds in
      elim (either l.rows l.may) [
        | inl before ↦ inl (record {
          rows = l.rows;
          may = before;
          progress = l.progress;
          end = l.end;
          is = l.is;
          holds = holds;
          is_kept = l.is_kept;
        })
        | inr made ↦ inr (l.is_kept ∙ law l.progress p l.end e l.is is
            (one_image old.version (image l.progress l.end) (image p e) l.rows holds made))
      ]
