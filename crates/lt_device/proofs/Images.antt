-- What a crash makes of one image.
use Rattle.std.proofs.Common.{◌≡◌, ◌≢◌, ◌⊎◌, inl, inr, ℕ, zero, suc, ◌<◌, ◌≤◌, Bool, true, false, List, [], ◌∷◌, length, get_or, set, map, refl, sym, ◌∙◌, subst, arith}
use Rattle.std.proofs.lemmas.List.{length-set, get_or-set_same, get_or-set_other, get_or_past, set_past, ext_get_or}
use Rattle.std.proofs.lemmas.List.Elements.{All-set}
use Rattle.std.proofs.lemmas.Bool.{cases_eq, cases_lt}
use Rattle.lt_terms.specs.Bytes.{Image, IsBlock, AreBlocks, block_at}
use Rattle.lt_device.specs.State.{IsWhole, SameOutside, IsCrashOf}

-- ---- lists of blocks

pub same_outside_refl : (inside : ℕ → Type 0) (image : Image) → SameOutside inside image image
same_outside_refl inside image = record { size = refl; others = λ k out. refl }

pub same_outside_joins : (S T : ℕ → Type 0) (a b c : Image) → SameOutside S a b → SameOutside T b c → SameOutside (λ k. S k ⊎ T k) a c
same_outside_joins S T a b c first then = record {
  size = then.size ∙ first.size;
  others = λ k out. then.others k (λ t. out (inr t)) ∙ first.others k (λ s. out (inl s));
}

pub same_outside_widens : (S T : ℕ → Type 0) (a b : Image) → ((k : ℕ) → S k → T k) → SameOutside S a b → SameOutside T a b
same_outside_widens S T a b more same = record { size = same.size; others = λ k out. same.others k (λ s. out (more k s)) }

pub block_at-set_other : (image : Image) (b k : ℕ) (page : List ℕ) → k ≢ b → block_at (set image b page) k ≡ block_at image k
block_at-set_other image b k page ne = get_or-set_other image b k page [] ne

pub block_at-set_same : (image : Image) (b : ℕ) (page : List ℕ) → b < length image → block_at (set image b page) b ≡ page
block_at-set_same image b page below = get_or-set_same image b page [] below

-- past the end of both
pub both_past : (a b : Image) (k : ℕ) → length a ≤ k → length b ≤ k → block_at a k ≡ block_at b k
both_past a b k past_a past_b = get_or_past a k [] past_a ∙ sym (get_or_past b k [] past_b)

pub IsWhole-set : (n : ℕ) (image : Image) (b : ℕ) (page : List ℕ) → IsWhole n image → IsBlock page → IsWhole n (set image b page)
IsWhole-set n image b page whole is = record { size = length-set image b page ∙ whole.size; pages = All-set IsBlock image b page is whole.pages }

-- ---- a crash

-- it may leave an image as it is
pub crash_none : (image : Image) (flags : List Bool) → AreBlocks image → IsCrashOf image flags image
crash_none image flags pages = record { size = refl; kept = λ k sure. refl; pages = pages }

-- where every block is sure, it leaves nothing else
pub crash_only : (image : Image) (flags : List Bool) (left : Image) → ((k : ℕ) → get_or flags k false ≡ false) → IsCrashOf image flags left → left ≡ image
crash_only image flags left sure crash = ext_get_or [] left image crash.size (λ k below. crash.kept k (sure k))

pub all_sure : (flags : List Bool) (k : ℕ) → get_or (map (λ _. false) flags) k false ≡ false
all_sure [] k = refl
all_sure (f ∷ flags) zero = refl
all_sure (f ∷ flags) (suc k) = all_sure flags k

-- ---- a write of block b, between two crashes

module _ (image : Image) (flags : List Bool) (n b : ℕ) (page : List ℕ) (whole : IsWhole n image) (long : length flags ≡ n) where
  put_back : (left : Image) → length left ≡ length image → (k : ℕ) → k ≡ b → block_at (set left b (block_at image b)) k ≡ block_at image k
  put_back left size k same =
      subst (λ (j : ℕ). block_at (set left b (block_at image b)) j ≡ block_at image j) (sym same) (elim (cases_lt b (length left)) [
        | inl below ↦ block_at-set_same left b (block_at image b) below
        | inr past ↦ both_past (set left b (block_at image b)) image b (omega (arith, length-set left b (block_at image b))) (omega arith)
      ])

  pages_back : (left : Image) → length left ≡ length image → AreBlocks left → AreBlocks (set left b (block_at image b))
  pages_back left size pages = elim (cases_lt b (length left)) [
    | inl below ↦ All-set IsBlock left b (block_at image b) (whole.pages b [] (omega arith)) pages
    | inr past ↦ subst AreBlocks (sym (set_past left b (block_at image b) past)) pages
  ]

  -- a block that was written and is sure lies behind the end
  sure_is_past : (k : ℕ) → k ≡ b → get_or (set flags b true) k false ≡ false → n ≤ k
  sure_is_past k same sure = elim (cases_lt b (length flags)) [
    | inl below ↦ let here : get_or (set flags b true) b false ≡ true = get_or-set_same flags b true false below in
        let there : get_or (set flags b true) b false ≡ false = subst (λ (j : ℕ). get_or (set flags b true) j false ≡ false) same sure in
        absurd (cc (here, there))
    | inr past ↦ omega arith
  ]

  -- after it, what a crash leaves differs from what one left before in that block alone
  pub crash_before_write : (left : Image) → IsCrashOf (set image b page) (set flags b true) left → IsCrashOf image flags (set left b (block_at image b))
  crash_before_write left crash =
      let size : length left ≡ length image = crash.size ∙ length-set image b page in
      record {
        size = length-set left b (block_at image b) ∙ size;
        kept = λ k sure. elim (cases_eq k b) [
          | inl same ↦ put_back left size k same
          | inr other ↦ block_at-set_other left b k (block_at image b) other ∙ crash.kept k (get_or-set_other flags b k true false other ∙ sure)
              ∙ block_at-set_other image b k page other
        ];
        pages = pages_back left size crash.pages;
      }

  -- with any page in that block
  pub crash_any_page : (left : Image) (other : List ℕ) → IsBlock other → IsCrashOf image flags left → IsCrashOf (set image b page) (set flags b true) (set left b other)
  crash_any_page left other is crash = record {
    size = length-set left b other ∙ crash.size ∙ sym (length-set image b page);
    kept = λ k sure. elim (cases_eq k b) [
      | inl same ↦ let past = sure_is_past k same sure in
          both_past (set left b other) (set image b page) k (omega (arith, length-set left b other, crash.size, whole.size)) (omega (arith, length-set image b page, whole.size))
      | inr ne ↦ block_at-set_other left b k other ne ∙ crash.kept k (sym (get_or-set_other flags b k true false ne) ∙ sure) ∙ sym (block_at-set_other image b k page ne)
    ];
    pages = All-set IsBlock left b other is crash.pages;
  }

  -- what a crash left before it, one may leave after it
  pub crash_after_write : (left : Image) → IsCrashOf image flags left → IsCrashOf (set image b page) (set flags b true) left
  crash_after_write left crash = record {
    size = crash.size ∙ sym (length-set image b page);
    kept = λ k sure. elim (cases_eq k b) [
      | inl same ↦ let past = sure_is_past k same sure in
          both_past left (set image b page) k (omega (arith, crash.size, whole.size)) (omega (arith, length-set image b page, whole.size))
      | inr ne ↦ crash.kept k (sym (get_or-set_other flags b k true false ne) ∙ sure) ∙ sym (block_at-set_other image b k page ne)
    ];
    pages = crash.pages;
  }
