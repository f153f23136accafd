-- Lines that are given to a sink in parts.
use Rattle.std.proofs.Common.{◌≡◌, ℕ, refl, sym, subst, ◌∙◌, List, [], ◌∷◌, ◌++◌, append_assoc, append-nil}
use Rattle.std.specs.Prelude.{codes}
use Rattle.lt_language.specs.Commands.{line_feed}
use Rattle.lt_language.specs.Replies.{spaced}
use Rattle.lt_io.specs.Streams.{Gains, GainsFront}
use Rattle.lt_cli.specs.Promise.{damage_line, small_line}
use Rattle.lt_io.proofs.Flows.{Gains-more, GainsFront-more, GainsFront-longer}

-- the sink stopped in a part, behind the first ones
pub stopped-in : (stands0 stands1 stands : List ℕ → Type 0) (first part rest line : List ℕ) → (first ++ part) ++ rest ≡ line → Gains stands0 stands1 first → GainsFront stands1 stands part → GainsFront stands0 stands line
stopped-in stands0 stands1 stands first part rest line is gained front = subst (λ xs. GainsFront stands0 stands xs) is (GainsFront-longer stands0 stands (first ++ part) rest (GainsFront-more stands0 stands1 stands first part gained front))

module _ (stands0 stands1 stands : List ℕ → Type 0) (block : ℕ) where
  pub damage-second : Gains stands0 stands1 (codes "DAMAGED") → GainsFront stands1 stands (spaced block) → GainsFront stands0 stands (damage_line block)
  damage-second first front = stopped-in stands0 stands1 stands (codes "DAMAGED") (spaced block) (line_feed ∷ []) (damage_line block) (append_assoc (codes "DAMAGED") (spaced block) (line_feed ∷ [])) first front

  pub damage-third : (stands2 : List ℕ → Type 0) → Gains stands0 stands1 (codes "DAMAGED") → Gains stands1 stands2 (spaced block) → GainsFront stands2 stands (line_feed ∷ []) → GainsFront stands0 stands (damage_line block)
  damage-third stands2 first second front = stopped-in stands0 stands2 stands (codes "DAMAGED" ++ spaced block) (line_feed ∷ []) [] (damage_line block)
      (append-nil ((codes "DAMAGED" ++ spaced block) ++ line_feed ∷ []) ∙ append_assoc (codes "DAMAGED") (spaced block) (line_feed ∷ []))
      (Gains-more stands0 stands1 stands2 (codes "DAMAGED") (spaced block) first second) front

module _ (stands0 stands1 stands : List ℕ → Type 0) (needed has : ℕ) where
  pub small-second : Gains stands0 stands1 (codes "TOO SMALL") → GainsFront stands1 stands (spaced needed) → GainsFront stands0 stands (small_line needed has)
  small-second first front = stopped-in stands0 stands1 stands (codes "TOO SMALL") (spaced needed) (spaced has ++ line_feed ∷ []) (small_line needed has) (sym (append_assoc (codes "TOO SMALL" ++ spaced needed) (spaced has) (line_feed ∷ []))) first front

  pub small-third : (stands2 : List ℕ → Type 0) → Gains stands0 stands1 (codes "TOO SMALL") → Gains stands1 stands2 (spaced needed) → GainsFront stands2 stands (spaced has) → GainsFront stands0 stands (small_line needed has)
  small-third stands2 first second front = stopped-in stands0 stands2 stands (codes "TOO SMALL" ++ spaced needed) (spaced has) (line_feed ∷ []) (small_line needed has) refl
      (Gains-more stands0 stands1 stands2 (codes "TOO SMALL") (spaced needed) first second) front

  pub small-fourth : (stands2 stands3 : List ℕ → Type 0) → Gains stands0 stands1 (codes "TOO SMALL") → Gains stands1 stands2 (spaced needed) → Gains stands2 stands3 (spaced has) → GainsFront stands3 stands (line_feed ∷ []) → GainsFront stands0 stands (small_line needed has)
  small-fourth stands2 stands3 first second third front = stopped-in stands0 stands3 stands ((codes "TOO SMALL" ++ spaced needed) ++ spaced has) (line_feed ∷ []) [] (small_line needed has)
      (append-nil (((codes "TOO SMALL" ++ spaced needed) ++ spaced has) ++ line_feed ∷ []))
      (Gains-more stands0 stands2 stands3 (codes "TOO SMALL" ++ spaced needed) (spaced has) (Gains-more stands0 stands1 stands2 (codes "TOO SMALL") (spaced needed) first second) third) front
