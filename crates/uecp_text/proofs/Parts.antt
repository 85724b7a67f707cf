-- The line that is said of a line of phrases, as the parts that are written.
use Rattle.std.proofs.Common.{◌≡◌, ℕ, List, ◌++◌, sym, ap, ◌∙◌, append_assoc}

-- bytes behind two that stand together
then : (a b c d : List ℕ) → b ++ c ≡ d → (a ++ b) ++ c ≡ a ++ d
then a b c d p = append_assoc a b c ∙ ap (λ l. a ++ l) p

-- the same, where the first are three
then_three : (x y z b c d : List ℕ) → b ++ c ≡ d → ((x ++ (y ++ z)) ++ b) ++ c ≡ x ++ (y ++ (z ++ d))
then_three x y z b c d p =
    then (x ++ (y ++ z)) b c d p ∙ append_assoc x (y ++ z) d ∙ ap (λ l. x ++ l) (append_assoc y z d)

-- a line's parts, in the order in which they are written
in_order : (line number column place colon before character behind what ask word mark end : List ℕ)
    → (line ++ (number ++ ((column ++ place) ++ (colon ++ ((before ++ (character ++ behind))
    ++ (what ++ (ask ++ (word ++ mark)))))))) ++ end
    ≡ line ++ (number ++ (column ++ (place ++ (colon ++ (before ++ (character ++ (behind ++ (what ++ (ask ++ (word
    ++ (mark ++ end)))))))))))
in_order line number column place colon before character behind what ask word mark end =
    then line _ end _ (then number _ end _ at_place)
  where
    last : List ℕ
    last = ask ++ (word ++ (mark ++ end))

    told : List ℕ
    told = before ++ (character ++ (behind ++ (what ++ last)))

    asked : (ask ++ (word ++ mark)) ++ end ≡ last
    asked = then ask (word ++ mark) end (word ++ (mark ++ end)) (append_assoc word mark end)

    at_place : ((column ++ place) ++ (colon ++ ((before ++ (character ++ behind))
        ++ (what ++ (ask ++ (word ++ mark))))))
        ++ end ≡ column ++ (place ++ (colon ++ told))
    at_place = then (column ++ place)
        (colon ++ ((before ++ (character ++ behind)) ++ (what ++ (ask ++ (word ++ mark)))))
        end (colon ++ told) (then colon ((before ++ (character ++ behind)) ++ (what ++ (ask ++ (word ++ mark)))) end
        told
        (then_three before character behind (what ++ (ask ++ (word ++ mark))) end (what ++ last)
        (then what (ask ++ (word ++ mark)) end last asked)))
        ∙ append_assoc column place (colon ++ told)

-- the line by its number, place, character, text and question, each as it is written
pub parts_are : (line number column place colon before character behind what ask word mark end : List ℕ)
    (number_said place_said named what_said question : List ℕ) → number ≡ number_said → place ≡ place_said
    → before ++ (character ++ behind) ≡ named → what ≡ what_said → ask ++ (word ++ mark) ≡ question
    → (line ++ (number_said ++ ((column ++ place_said) ++ (colon ++ (named ++ (what_said ++ question)))))) ++ end
    ≡ line ++ (number ++ (column ++ (place ++ (colon ++ (before ++ (character ++ (behind ++ (what ++ (ask ++ (word
    ++ (mark ++ end)))))))))))
parts_are line number column place colon before character behind what ask word mark end n p d w q n_is p_is d_is w_is
    q_is =
    ap (λ n. (line ++ (n ++ ((column ++ p) ++ (colon ++ (d ++ (w ++ q)))))) ++ end) (sym n_is)
    ∙ ap (λ p. (line ++ (number ++ ((column ++ p) ++ (colon ++ (d ++ (w ++ q)))))) ++ end) (sym p_is)
    ∙ ap (λ d. (line ++ (number ++ ((column ++ place) ++ (colon ++ (d ++ (w ++ q)))))) ++ end) (sym d_is)
    ∙ ap (λ w. (line ++ (number ++ ((column ++ place) ++ (colon ++ ((before ++ (character ++ behind)) ++ (w ++ q))))))
    ++ end)
    (sym w_is)
    ∙ ap (λ q. (line ++ (number ++ ((column ++ place)
    ++ (colon ++ ((before ++ (character ++ behind)) ++ (what ++ q))))))
    ++ end) (sym q_is)
    ∙ in_order line number column place colon before character behind what ask word mark end
