-- A search of tables one after another, the newest first.
use Rattle.std.proofs.Common.{◌≡◌, ℕ, ◌+◌, ◌≤◌, refl, sym, ap, subst, ◌∙◌, List, [], ◌∷◌, ◌++◌, Bool, true, false, cond, ◌&&◌, Option, Some, None, Result, Ok, Err, append_assoc, append-nil, arith}
use Rattle.std.specs.List.{AllByRecursion, sum_by}
use Rattle.std.specs.Option.{is_some}
use Rattle.std.proofs.lemmas.List.Sums.{sum_by-append, sum_by-cons}
use Rattle.lt_terms.specs.Bytes.{Image}
use Rattle.lt_terms.specs.Items.{Item}
use Rattle.lt_device.specs.Reads.{CountsAtMost}
use Rattle.lt_format.specs.declared.geometry.Geometry.{Geometry}
use Rattle.lt_format.specs.Layout.{extent_block}
use Rattle.lt_htable.specs.declared.faults.LookFault.{LookFault}
use Rattle.lt_htable.specs.declared.faults.LookFault.TheVariants.{Device, Damaged}
use Rattle.lt_image.specs.Bound.{groups_met, is_sent}
use Rattle.lt_image.specs.Versions.{Stop}
use Rattle.lt_search.specs.declared.version.Version.{Version}
use Rattle.lt_search.specs.Reads.{bucket_reads, look_reads, path_reads}
use Rattle.lt_search.specs.Searched.{Searched}
use Rattle.lt_search.specs.Seen.{IsSeen, before_older, is_told, met_along, seen_along, seen_at, seen_in}
use Rattle.lt_search.proofs.StopLaws.{all_up_to}
use Rattle.lt_tables.proofs.ListLaws.{all_weaker}

-- ---- counts of reads

pub counts-more : (m n k a b c : ℕ) → CountsAtMost m a b → CountsAtMost n b c → m + n ≤ k → CountsAtMost k a c
counts-more m n k a b c first second within = record {
  later = omega (arith, first.later, second.later);
  at_most = omega (arith, first.later, first.at_most, second.later, second.at_most);
}

pub counts-fewer : (n k a b : ℕ) → CountsAtMost n a b → n ≤ k → CountsAtMost k a b
counts-fewer n k a b h within = record { later = h.later; at_most = omega (arith, h.later, h.at_most) }

pub counts-none : (n a : ℕ) → CountsAtMost n a a
counts-none n a = record { later = omega arith; at_most = omega arith }

-- ---- answers

-- the search ends with this answer
abbrev pub IsLast : Result (Option Version) LookFault → Type 0
IsLast (Ok None) = ⊥
IsLast (Ok (Some version)) = Unit {0}
IsLast (Err fault) = Unit {0}

pub last-some : (version : Option Version) → is_some version ≡ true → IsLast (Ok version)
last-some None some = cc
last-some (Some version) some = tt

pub none-is : (version : Option Version) → is_some version ≡ false → version ≡ None
none-is None none = refl
none-is (Some version) none = cc

older-assoc : (a b c : Result (Option Item) LookFault) → before_older (before_older a b) c ≡ before_older a (before_older b c)
older-assoc (Ok None) b c = refl
older-assoc (Ok (Some item)) b c = refl
older-assoc (Err fault) b c = refl

older-none : (a : Result (Option Item) LookFault) → before_older a (Ok None) ≡ a
older-none (Ok None) = refl
older-none (Ok (Some item)) = refl
older-none (Err fault) = refl

older-parts : (a b : Result (Option Item) LookFault) → before_older a b ≡ Ok None → (a ≡ Ok None) × (b ≡ Ok None)
older-parts (Ok None) b h = (refl, h)
older-parts (Ok (Some item)) b h = cc
older-parts (Err fault) b h = cc

-- a search that goes on saw nothing
pub seen-none : (answer : Result (Option Item) LookFault) (old new : List ℕ) → IsSeen answer (Ok None) old new → answer ≡ Ok None
seen-none (Ok None) old new h = refl
seen-none (Ok (Some item)) old new h = absurd h
seen-none (Err fault) old new h = absurd h

pub device-seen : (answer : Result (Option Item) LookFault) (old new : List ℕ) → IsSeen answer (Err Device) old new
device-seen (Ok item) old new = tt
device-seen (Err fault) old new = tt

-- what ends a search counts before what is older
pub seen-older : (answer older : Result (Option Item) LookFault) (result : Result (Option Version) LookFault) (old new : List ℕ) → IsLast result → IsSeen answer result old new → IsSeen (before_older answer older) result old new
seen-older answer older (Ok None) old new last h = absurd last
seen-older (Ok None) older (Ok (Some version)) old new last h = absurd h
seen-older (Ok (Some item)) older (Ok (Some version)) old new last h = h
seen-older (Err fault) older (Ok (Some version)) old new last h = absurd h
seen-older answer older (Err Device) old new last h = device-seen (before_older answer older) old new
seen-older (Ok item) older (Err (Damaged b)) old new last h = absurd h
seen-older (Err fault) older (Err (Damaged b)) old new last h = h

-- ---- the front of a list

pub record Fronts (front whole : List Stop) : Type 0 where
  pub rest : List Stop
  pub is : whole ≡ front ++ rest

same-sum : (f h : Stop → ℕ) (ss : List Stop) → AllByRecursion (λ s. f s ≡ h s) ss → sum_by f ss ≡ sum_by h ss
same-sum f h [] all = refl
same-sum f h (s ∷ ss) all =
    sum_by-cons f s ss
    ∙ ap (λ n. n + sum_by f ss) all.0
    ∙ ap (λ n. h s + n) (same-sum f h ss all.1)
    ∙ sym (sum_by-cons h s ss)

-- ---- what was seen so far, and what was read

pub record SoFar (asks : Stop → Bool) (cost : (Stop → Bool) → Geometry → Image → List ℕ → List Stop → ℕ) (g : Geometry) (image : Image) (key : List ℕ) (done : List Stop) (before now : ℕ) : Type 0 where
  pub quiet : seen_along asks g image key done ≡ Ok None
  pub reads : CountsAtMost (cost asks g image key done) before now

module _ (asks : Stop → Bool) (g : Geometry) (image : Image) (key : List ℕ) where
  pub seen_along-append : (xs ys : List Stop) → seen_along asks g image key (xs ++ ys) ≡ before_older (seen_along asks g image key xs) (seen_along asks g image key ys)
  seen_along-append [] ys = refl
  seen_along-append (x ∷ xs) ys =
      ap (before_older (seen_at asks g image key x)) (seen_along-append xs ys)
      ∙ sym (older-assoc (seen_at asks g image key x) (seen_along asks g image key xs) (seen_along asks g image key ys))

  pub seen-behind : (done ss : List Stop) → seen_along asks g image key done ≡ Ok None → seen_along asks g image key (done ++ ss) ≡ seen_along asks g image key ss
  seen-behind done ss quiet = seen_along-append done ss ∙ ap (λ (a : Result (Option Item) LookFault). before_older a (seen_along asks g image key ss)) quiet

  -- tables that tell nothing are all met
  pub met-quiet : (done ss : List Stop) → seen_along asks g image key done ≡ Ok None → met_along asks g image key (done ++ ss) ≡ done ++ met_along asks g image key ss
  met-quiet [] ss quiet = refl
  met-quiet (x ∷ xs) ss quiet =
      let parts = older-parts (seen_at asks g image key x) (seen_along asks g image key xs) quiet in
      ap (λ (b : Bool). x ∷ cond b [] (met_along asks g image key (xs ++ ss))) (ap is_told parts.0)
      ∙ ap (λ zs. x ∷ zs) (met-quiet xs ss parts.1)

  pub met-all : (done : List Stop) → seen_along asks g image key done ≡ Ok None → met_along asks g image key done ≡ done
  met-all done quiet = ap (met_along asks g image key) (sym (append-nil done)) ∙ met-quiet done [] quiet ∙ append-nil done

  pub met-front : (xs ys : List Stop) → Fronts (met_along asks g image key xs) (met_along asks g image key (xs ++ ys))
  met-front [] ys = record { rest = met_along asks g image key ys; is = refl }
  met-front (x ∷ xs) ys = by_told (is_told (seen_at asks g image key x)) (met-front xs ys)
    where
      by_told : (b : Bool) → Fronts (met_along asks g image key xs) (met_along asks g image key (xs ++ ys)) → Fronts (x ∷ cond b [] (met_along asks g image key xs)) (x ∷ cond b [] (met_along asks g image key (xs ++ ys)))
      by_told true f = record { rest = []; is = refl }
      by_told false f = record { rest = f.rest; is = ap (λ zs. x ∷ zs) f.is }

  pub buckets-append : (xs ys : List Stop) → bucket_reads asks g image key (xs ++ ys) ≡ bucket_reads asks g image key xs + bucket_reads asks g image key ys
  buckets-append xs ys =
      let once = sum_by-append (λ (s : Stop). cond (asks s) 1 0) xs ys in
      let twice = sum_by-append (λ (s : Stop). cond (asks s && is_sent g image key s) 1 0) xs ys in
      omega (arith, once, twice)

  pub buckets-front : (front whole : List Stop) → Fronts front whole → bucket_reads asks g image key front ≤ bucket_reads asks g image key whole
  buckets-front front whole f =
      let same = ap (bucket_reads asks g image key) f.is in
      let parts = buckets-append front f.rest in
      omega (arith, same, parts)

  -- ---- one table

  one_cost : (a s : Bool) → a ≡ true → cond s 2 1 ≤ (0 + cond a 1 0) + (0 + cond (a && s) 1 0)
  one_cost true true h = omega arith
  one_cost true false h = omega arith
  one_cost false s h = cc

  met-one : (s : Stop) (b : Bool) → s ∷ cond b [] [] ≡ s ∷ []
  met-one s true = refl
  met-one s false = refl

  asked-seen : (s : Stop) → asks s ≡ true → seen_along asks g image key (s ∷ []) ≡ seen_in image (extent_block g s.extent) key
  asked-seen s asked = older-none (seen_at asks g image key s) ∙ ap (λ (b : Bool). cond b (seen_in image (extent_block g s.extent) key) (Ok None)) asked

  -- a look-up in a table that was asked
  pub one : (s : Stop) (result : Result (Option Version) LookFault) (old new : List ℕ) (before now : ℕ) → asks s ≡ true → IsSeen (seen_in image (extent_block g s.extent) key) result old new → CountsAtMost (look_reads image (extent_block g s.extent) key) before now
      → Searched asks bucket_reads g image key (s ∷ []) result old new before now
  one s result old new before now asked seen reads = record {
    seen = subst (λ (a : Result (Option Item) LookFault). IsSeen a result old new) (sym (asked-seen s asked)) seen;
    reads = subst (λ (ss : List Stop). CountsAtMost (bucket_reads asks g image key ss) before now) (sym (met-one s (is_told (seen_at asks g image key s))))
        (counts-fewer (look_reads image (extent_block g s.extent) key) (bucket_reads asks g image key (s ∷ [])) before now reads (one_cost (asks s) (is_sent g image key s) asked));
  }

  passed : (s : Stop) → asks s ≡ false → seen_at asks g image key s ≡ Ok None
  passed s off = ap (λ (b : Bool). cond b (seen_in image (extent_block g s.extent) key) (Ok None)) off

  -- a table that is passed over
  pub skip : (done : List Stop) (s : Stop) (before now : ℕ) → SoFar asks bucket_reads g image key done before now → asks s ≡ false → SoFar asks bucket_reads g image key (done ++ s ∷ []) before now
  skip done s before now so_far off = record {
    quiet = seen-behind done (s ∷ []) so_far.quiet ∙ older-none (seen_at asks g image key s) ∙ passed s off;
    reads = counts-fewer (bucket_reads asks g image key done) (bucket_reads asks g image key (done ++ s ∷ [])) before now so_far.reads (buckets-front done (done ++ s ∷ []) (record { rest = s ∷ []; is = refl }));
  }

  -- ---- some tables after others

  pub start : (before : ℕ) → SoFar asks bucket_reads g image key [] before before
  start before = record { quiet = refl; reads = counts-none 0 before }

  -- they told nothing either
  pub next : (done ss : List Stop) (version : Option Version) (out new : List ℕ) (before mid now : ℕ) → SoFar asks bucket_reads g image key done before mid → Searched asks bucket_reads g image key ss (Ok version) out new mid now → is_some version ≡ false
      → SoFar asks bucket_reads g image key (done ++ ss) before now
  next done ss version out new before mid now so_far searched none =
      let quiet = seen-none (seen_along asks g image key ss) out new (subst (λ (v : Option Version). IsSeen (seen_along asks g image key ss) (Ok v) out new) (none-is version none) searched.seen) in
      record {
        quiet = seen-behind done ss so_far.quiet ∙ quiet;
        reads = counts-more _ _ _ before mid now so_far.reads searched.reads
            (let all = ap (bucket_reads asks g image key) (met-all ss quiet) in let parts = buckets-append done ss in omega (arith, all, parts));
      }

  -- they ended the search
  pub exit : (done ss rest whole : List Stop) (result : Result (Option Version) LookFault) (out old new : List ℕ) (before mid now : ℕ) → SoFar asks bucket_reads g image key done before mid → Searched asks bucket_reads g image key ss result out new mid now → IsLast result → whole ≡ (done ++ ss) ++ rest → out ≡ old
      → Searched asks bucket_reads g image key whole result old new before now
  exit done ss rest whole result out old new before mid now so_far searched last whole_is same =
      let joined : whole ≡ done ++ (ss ++ rest) = whole_is ∙ append_assoc done ss rest in
      let seen_is : seen_along asks g image key whole ≡ before_older (seen_along asks g image key ss) (seen_along asks g image key rest) =
      ap (seen_along asks g image key) joined ∙ seen-behind done (ss ++ rest) so_far.quiet ∙ seen_along-append ss rest in
      let met_is = ap (met_along asks g image key) joined ∙ met-quiet done (ss ++ rest) so_far.quiet in
      record {
        seen = subst (λ (page : List ℕ). IsSeen (seen_along asks g image key whole) result page new) same
            (subst (λ (a : Result (Option Item) LookFault). IsSeen a result out new) (sym seen_is) (seen-older (seen_along asks g image key ss) (seen_along asks g image key rest) result out new last searched.seen));
        reads = counts-more _ _ _ before mid now so_far.reads searched.reads
            (let all = ap (bucket_reads asks g image key) met_is in
            let parts = buckets-append done (met_along asks g image key (ss ++ rest)) in
            let front = buckets-front _ _ (met-front ss rest) in
            omega (arith, all, parts, front));
      }

  -- no table is left
  pub all : (whole : List Stop) (old : List ℕ) (before now : ℕ) → SoFar asks bucket_reads g image key whole before now → Searched asks bucket_reads g image key whole (Ok None) old old before now
  all whole old before now so_far = record {
    seen = subst (λ (a : Result (Option Item) LookFault). IsSeen a (Ok None) old old) (sym so_far.quiet) refl;
    reads = subst (λ (ss : List Stop). CountsAtMost (bucket_reads asks g image key ss) before now) (sym (met-all whole so_far.quiet)) so_far.reads;
  }

-- ---- two tests that agree

module _ (a b : Stop → Bool) (g : Geometry) (image : Image) (key : List ℕ) where
  same-at : (s : Stop) → a s ≡ b s → seen_at a g image key s ≡ seen_at b g image key s
  same-at s same = ap (λ (asked : Bool). cond asked (seen_in image (extent_block g s.extent) key) (Ok None)) same

  pub same-seen : (ss : List Stop) → AllByRecursion (λ s. a s ≡ b s) ss → seen_along a g image key ss ≡ seen_along b g image key ss
  same-seen [] all = refl
  same-seen (s ∷ ss) all =
      ap (λ (x : Result (Option Item) LookFault). before_older x (seen_along a g image key ss)) (same-at s all.0)
      ∙ ap (before_older (seen_at b g image key s)) (same-seen ss all.1)

  pub same-met : (ss : List Stop) → AllByRecursion (λ s. a s ≡ b s) ss → met_along a g image key ss ≡ met_along b g image key ss
  same-met [] all = refl
  same-met (s ∷ ss) all =
      ap (λ (x : Result (Option Item) LookFault). s ∷ cond (is_told x) [] (met_along a g image key ss)) (same-at s all.0)
      ∙ ap (λ (zs : List Stop). s ∷ cond (is_told (seen_at b g image key s)) [] zs) (same-met ss all.1)

  pub same-buckets : (ss : List Stop) → AllByRecursion (λ s. a s ≡ b s) ss → bucket_reads a g image key ss ≡ bucket_reads b g image key ss
  same-buckets ss all =
      let once = same-sum (λ (s : Stop). cond (a s) 1 0) (λ (s : Stop). cond (b s) 1 0) ss (all_weaker (λ (s : Stop). a s ≡ b s) (λ (s : Stop). cond (a s) 1 0 ≡ cond (b s) 1 0) (λ s same. ap (λ (x : Bool). cond x 1 0) same) ss all) in
      let twice = same-sum (λ (s : Stop). cond (a s && is_sent g image key s) 1 0) (λ (s : Stop). cond (b s && is_sent g image key s) 1 0) ss (all_weaker (λ (s : Stop). a s ≡ b s) (λ (s : Stop). cond (a s && is_sent g image key s) 1 0 ≡ cond (b s && is_sent g image key s) 1 0) (λ s same. ap (λ (x : Bool). cond (x && is_sent g image key s) 1 0) same) ss all) in
      omega (arith, once, twice)

  buckets_met : (ss : List Stop) → AllByRecursion (λ s. a s ≡ b s) ss → bucket_reads a g image key (met_along a g image key ss) ≡ bucket_reads b g image key (met_along b g image key ss)
  buckets_met ss all =
      same-buckets (met_along a g image key ss) (all_up_to (λ s. a s ≡ b s) (λ s. is_told (seen_at a g image key s)) ss all)
      ∙ ap (bucket_reads b g image key) (same-met ss all)

  pub same-search : (ss : List Stop) (result : Result (Option Version) LookFault) (old new : List ℕ) (before now : ℕ) → AllByRecursion (λ s. a s ≡ b s) ss → Searched a bucket_reads g image key ss result old new before now → Searched b bucket_reads g image key ss result old new before now
  same-search ss result old new before now all searched = record {
    seen = subst (λ (x : Result (Option Item) LookFault). IsSeen x result old new) (same-seen ss all) searched.seen;
    reads = subst (λ n. CountsAtMost n before now) (buckets_met ss all) searched.reads;
  }

  pub same-path : (ss : List Stop) (result : Result (Option Version) LookFault) (old new : List ℕ) (before now : ℕ) → AllByRecursion (λ s. a s ≡ b s) ss → Searched a path_reads g image key ss result old new before now → Searched b path_reads g image key ss result old new before now
  same-path ss result old new before now all searched =
      let buckets = buckets_met ss all in
      let groups = ap (groups_met g.levels) (same-met ss all) in
      record {
        seen = subst (λ (x : Result (Option Item) LookFault). IsSeen x result old new) (same-seen ss all) searched.seen;
        reads = counts-fewer _ _ before now searched.reads (omega (arith, buckets, groups));
      }
