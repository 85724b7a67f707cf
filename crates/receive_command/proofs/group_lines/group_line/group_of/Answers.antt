use denote.Ref.{Bor}
use Rattle.std.proofs.Common.{◌≡◌, ℕ, ◌≤◌, ◌<◌, length, get_or, List, [], ◌∷◌, refl, arith}
use Rattle.uecp_text.specs.Words.{texts}
use Rattle.receive_command.proofs.group_lines.group_line.group_of.Goals as goal

four_words : (ws : List (Bor (List ℕ))) (none : Bor (List ℕ)) → 4 ≤ length ws → length ws < 5
    → texts ws ≡ (get_or ws 0 none).now ∷ (get_or ws 1 none).now ∷ (get_or ws 2 none).now ∷ (get_or ws 3 none).now ∷ []
four_words [] none least most = absurd (omega (arith, least))
four_words (a ∷ []) none least most = absurd (omega (arith, least))
four_words (a ∷ b ∷ []) none least most = absurd (omega (arith, least))
four_words (a ∷ b ∷ c ∷ []) none least most = absurd (omega (arith, least))
four_words (a ∷ b ∷ c ∷ d ∷ []) none least most = refl
four_words (a ∷ b ∷ c ∷ d ∷ e ∷ ws) none least most = absurd (omega (arith, most))

pub returns-in_ok-block_of-in-len4-4-clause-some : goal.returns-in_ok-block_of-in-len4-4-clause-some
returns-in_ok-block_of-in-len4-4-clause-some c = (
  (get_or c.args.words.now 0 (record { ref_ptr = (0, 0); now = [] })).now,
  (get_or c.args.words.now 1 (record { ref_ptr = (0, 0); now = [] })).now,
  (get_or c.args.words.now 2 (record { ref_ptr = (0, 0); now = [] })).now,
  (get_or c.args.words.now 3 (record { ref_ptr = (0, 0); now = [] })).now,
  four_words c.args.words.now (record { ref_ptr = (0, 0); now = [] }) c.in-len4.len_at_least c.in-len4.len_below,
  c.in_ok-block_of-in-len4.ensures.some,
  c.in_ok-block_of-in-len4-2.ensures.some,
  c.in_ok-block_of-in-len4-3.ensures.some,
  c.in_ok-block_of-in-len4-4.ensures.some,
)
