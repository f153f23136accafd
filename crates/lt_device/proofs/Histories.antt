-- What the history of a device in memory tells after one entry more.
use Rattle.std.proofs.Common.{◌≡◌, inl, inr, ℕ, ◌<◌, Bool, true, false, List, [], ◌∷◌, length, get_or, set, map, replicate, refl, sym, ◌∙◌, ap, subst, arith}
use Rattle.std.specs.List.{All}
use Rattle.std.proofs.lemmas.List.{set-set, set-get_or, length-set, get_or-set_same, get_or-set_other, get_or-replicate, get_or_past, length-replicate, ext_get_or}
use Rattle.std.proofs.lemmas.Simd.{splat_is_map}
use Rattle.std.proofs.lemmas.Bool.{cases_eq, cases_lt}
use Rattle.lt_terms.specs.Bytes.{Image, block_at}
use Rattle.lt_device.specs.History.{Made, wrote, synced, stable_of, written_of, past_of, IsHistoryOf}

-- a write that is taken back
pub put_back : (image : Image) (b : ℕ) (page : List ℕ) → set (set image b page) b (block_at image b) ≡ image
put_back image b page = set-set image b page (block_at image b) ∙ set-get_or image b []

pub record Adds (b : ℕ) (image image' : Image) (older newer : List Made) : Type 0 where
  pub stable : stable_of newer image' ≡ stable_of older image
  pub past : past_of newer image' ≡ past_of older image

-- a write leaves what was stable, and the epochs that ended
pub adds : (b : ℕ) (image image' : Image) (page before : List ℕ) (older newer : List Made) → before ≡ block_at image b → image' ≡ set image b page → newer ≡ wrote b before ∷ older → Adds b image image' older newer
adds b image image' page before older newer was shown made =
    let back : set image' b before ≡ image = ap (λ i. set i b before) shown ∙ ap (λ p. set (set image b page) b p) was ∙ put_back image b page in
    record {
      stable = ap (λ m. stable_of m image') made ∙ ap (λ i. stable_of older i) back;
      past = ap (λ m. past_of m image') made ∙ ap (λ i. past_of older i) back;
    }

none_sure : (n k : ℕ) → get_or (replicate n false) k false ≡ false
none_sure n k = elim (cases_lt k n) [
  | inl below ↦ get_or-replicate n k false false below
  | inr past ↦ get_or_past (replicate n false) k false (omega (arith, length-replicate n false))
]

-- after a sync every block is sure
pub IsHistoryOf-synced : (n room room' : ℕ) (flags flags' : List Bool) (older newer : List Made) → length flags ≡ n → IsHistoryOf n flags room older → flags' ≡ map (λ _. false) flags → newer ≡ synced ∷ older → IsHistoryOf n flags' room' newer
IsHistoryOf-synced n room room' flags flags' older newer long was sure made =
    let all : map (λ _. false) flags ≡ replicate n false = sym (splat_is_map flags n false long) in
    subst (λ (m : List Made). IsHistoryOf n flags' room' m) (sym made) (record {
      below = was.below;
      sure = λ k off. none_sure n k;
      exact = λ some. sure ∙ all;
    })

-- ---- what is sure is stable

length-stable_of : (history : List Made) (image : Image) → length (stable_of history image) ≡ length image
length-stable_of [] image = refl
length-stable_of (wrote block before ∷ older) image = length-stable_of older (set image block before) ∙ length-set image block before
length-stable_of (synced ∷ older) image = refl

length-written_of : (n : ℕ) (history : List Made) → length (written_of n history) ≡ n
length-written_of n [] = length-replicate n false
length-written_of n (wrote block before ∷ older) = length-set (written_of n older) block true ∙ length-written_of n older
length-written_of n (synced ∷ older) = length-replicate n false

-- a block that was not written since the last sync reads as it did then
stable_of-sure : (n k : ℕ) (history : List Made) (image : Image) → k < n → get_or (written_of n history) k false ≡ false → block_at (stable_of history image) k ≡ block_at image k
stable_of-sure n k [] image below off = refl
stable_of-sure n k (wrote block before ∷ older) image below off = elim (cases_eq k block) [
  | inl same ↦
      let there : get_or (set (written_of n older) k true) k false ≡ true = get_or-set_same (written_of n older) k true false (omega (arith, length-written_of n older)) in
      let here : get_or (set (written_of n older) k true) k false ≡ false = subst (λ b. get_or (set (written_of n older) b true) k false ≡ false) (sym same) off in
      absurd (cc (there, here))
  | inr other ↦
      stable_of-sure n k older (set image block before) below (sym (get_or-set_other (written_of n older) block k true false other) ∙ off)
      ∙ get_or-set_other image block k before [] other
]
stable_of-sure n k (synced ∷ older) image below off = refl

pub record IsStable (unsynced : List Bool) (stable shown : Image) : Type 0 where
  pub size : length stable ≡ length shown
  pub sure : (k : ℕ) → k < length shown → get_or unsynced k false ≡ false → block_at stable k ≡ block_at shown k

pub IsStable-history : (flags : List Bool) (room : ℕ) (history : List Made) (image : Image) → IsHistoryOf (length image) flags room history → IsStable flags (stable_of history image) image
IsStable-history flags room history image is = record {
  size = length-stable_of history image;
  sure = λ k below off. stable_of-sure (length image) k history image below (is.sure k off);
}

-- ---- where all blocks are sure

all_off : (flags : List Bool) → All (λ flag. flag ≡ false) flags → (k : ℕ) → get_or flags k false ≡ false
all_off flags clean k = elim (cases_lt k (length flags)) [
  | inl below ↦ clean k false below
  | inr past ↦ get_or_past flags k false past
]

-- what is stable is what reads
pub stable_of-clean : (flags : List Bool) (room : ℕ) (history : List Made) (image : Image) → IsHistoryOf (length image) flags room history → All (λ flag. flag ≡ false) flags → stable_of history image ≡ image
stable_of-clean flags room history image is clean =
    let stable = IsStable-history flags room history image is in
    ext_get_or [] (stable_of history image) image stable.size (λ k below. stable.sure k (omega (arith, stable.size)) (all_off flags clean k))

-- an empty history fits
pub IsHistoryOf-empty : (n room : ℕ) (flags : List Bool) (history : List Made) → length flags ≡ n → All (λ flag. flag ≡ false) flags → history ≡ [] → IsHistoryOf n flags room history
IsHistoryOf-empty n room flags history long clean empty = subst (λ (h : List Made). IsHistoryOf n flags room h) (sym empty) (record {
  below = tt;
  sure = λ k off. none_sure n k;
  exact = λ some. ext_get_or false flags (replicate n false) (long ∙ sym (length-replicate n false)) (λ k below. all_off flags clean k ∙ sym (none_sure n k));
})
