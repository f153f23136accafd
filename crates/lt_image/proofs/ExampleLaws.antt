-- The worked examples, computed.
use Rattle.std.proofs.Common.{◌≡◌, ℕ, ◌+◌, ◌∙◌, ap, refl, List, [], ◌∷◌, ◌++◌, Bool, cond, ◌&&◌, Some, None, true, false, codes, drop, map}
use Rattle.std.specs.Prelude.{nat_le}
use Rattle.std.specs.Option.{option_map_or}
use Rattle.sha1.specs.Sha1.{first_words, schedule, rounds, compress, hash_after, digest_bytes, sha1}
use Rattle.lt_terms.specs.Bytes.{Image}
use Rattle.lt_terms.specs.Hashes.{key_hash, rank_cmp}
use Rattle.lt_terms.specs.Items.{delete_of, put_of}
use Rattle.lt_tables.specs.declared.Sends.{Sends}
use Rattle.lt_tables.specs.Bucket.{sends_on}
use Rattle.lt_tables.specs.Cut.{first_fit, counts_within}
use Rattle.lt_tables.specs.Filter.{covers}
use Rattle.lt_tables.specs.Placement.{columns, column_load, column_mark, sent_cost, room, sendings, placement}
use Rattle.lt_format.specs.Log.{items_in}
use Rattle.lt_format.specs.Changes.{after_change}
use Rattle.lt_format.specs.Trie.{child, node_at, path_number, root, with_node}
use Rattle.lt_image.specs.Bound.{holds_key, is_sent, met, read_bound, reads_of, up_to_first}
use Rattle.lt_image.specs.Examples.{grouped_trie, inner_deal, inner_trie, last_trie, long_keys, long_put, old_versions, pile, three_keys, two_levels}
use Rattle.lt_image.specs.Needs.{has_slack}
use Rattle.lt_image.specs.Versions.{Stop, stops, extent_in, items_at, Opened}
use Rattle.lt_image.specs.Shares.{deal_shares, kept_groups, needed, new_groups, rewrite_share}

pub inner-shares : deal_shares inner_trie root three_keys ≡ record { node = child root 1; behind = []; parts = (delete_of (codes "d") ∷ []) ∷ [] } ∷ record { node = child root 4; behind = 8 ∷ 9 ∷ []; parts = (put_of (codes "c") (3 ∷ []) ∷ put_of (codes "a") (4 ∷ []) ∷ []) ∷ [] } ∷ []
unfolding rank_cmp key_hash first_words schedule rounds compress hash_after digest_bytes sha1 node_at first_fit counts_within columns column_load column_mark sent_cost room sendings placement needed
inner-shares = refl

pub inner-needs : needed 3 inner_trie root three_keys ≡ 2
unfolding rank_cmp key_hash first_words schedule rounds compress hash_after digest_bytes sha1 node_at first_fit counts_within columns column_load column_mark sent_cost room sendings placement needed
inner-needs = refl

pub inner-trie : after_change inner_trie inner_deal ≡ (child root 1, pile 20 1 []) ∷ (child root 4, record { base = 0; tables = 8 ∷ 9 ∷ 21 ∷ []; groups = [] }) ∷ []
unfolding after_change node_at with_node
inner-trie = refl

pub last-shares : deal_shares last_trie root long_keys ≡ record { node = child root 1; behind = (pile 12 64 []).tables; parts = (put_of (codes "d") [] ∷ []) ∷ [] } ∷ record { node = child root 4; behind = (pile 77 63 []).tables; parts = (long_put 198 ∷ long_put 156 ∷ []) ∷ (long_put 3 ∷ []) ∷ [] } ∷ []
unfolding rank_cmp key_hash first_words schedule rounds compress hash_after digest_bytes sha1 node_at first_fit counts_within columns column_load column_mark sent_cost room sendings placement needed
last-shares = refl

pub last-kept : map (kept_groups 2) (deal_shares last_trie root long_keys) ≡ 1 ∷ 0 ∷ []
unfolding rank_cmp key_hash first_words schedule rounds compress hash_after digest_bytes sha1 node_at first_fit counts_within columns column_load column_mark sent_cost room sendings placement needed
last-kept = refl

pub last-new : map (new_groups 2) (deal_shares last_trie root long_keys) ≡ 1 ∷ 2 ∷ []
unfolding rank_cmp key_hash first_words schedule rounds compress hash_after digest_bytes sha1 node_at first_fit counts_within columns column_load column_mark sent_cost room sendings placement needed
last-new = refl

pub last-needs : needed 2 last_trie root long_keys ≡ 6
unfolding rank_cmp key_hash first_words schedule rounds compress hash_after digest_bytes sha1 node_at first_fit counts_within columns column_load column_mark sent_cost room sendings placement needed
last-needs = refl

pub rewriting-share : rewrite_share (child root 4) old_versions ≡ record { node = child root 4; behind = []; parts = (put_of (codes "c") (3 ∷ []) ∷ put_of (codes "t") (4 ∷ []) ∷ []) ∷ [] }
unfolding rank_cmp key_hash first_words schedule rounds compress hash_after digest_bytes sha1 node_at first_fit counts_within columns column_load column_mark sent_cost room sendings placement needed
rewriting-share = refl

pub rewriting-needs : needed 2 last_trie (child root 4) old_versions ≡ 2
unfolding rank_cmp key_hash first_words schedule rounds compress hash_after digest_bytes sha1 node_at first_fit counts_within columns column_load column_mark sent_cost room sendings placement needed
rewriting-needs = refl

pub slack-before : has_slack 2 last_trie (child root 4) old_versions 2 ≡ true
unfolding rank_cmp key_hash first_words schedule rounds compress hash_after digest_bytes sha1 node_at first_fit counts_within columns column_load column_mark sent_cost room sendings placement needed
slack-before = refl

pub slack-after : has_slack 2 last_trie (child root 4) (put_of (codes "c") (3 ∷ []) ∷ put_of (codes "t") (4 ∷ []) ∷ []) 2 ≡ false
unfolding rank_cmp key_hash first_words schedule rounds compress hash_after digest_bytes sha1 node_at first_fit counts_within columns column_load column_mark sent_cost room sendings placement needed
slack-after = refl

pub delete-slack : has_slack 2 last_trie (child root 4) (put_of (codes "c") [] ∷ delete_of (codes "a") ∷ []) 2 ≡ true
unfolding rank_cmp key_hash first_words schedule rounds compress hash_after digest_bytes sha1 node_at first_fit counts_within columns column_load column_mark sent_cost room sendings placement needed
delete-slack = refl

pub version-slack : has_slack 2 last_trie (child root 4) (put_of (codes "c") [] ∷ put_of (codes "c") [] ∷ []) 2 ≡ true
unfolding rank_cmp key_hash first_words schedule rounds compress hash_after digest_bytes sha1 node_at first_fit counts_within columns column_load column_mark sent_cost room sendings placement needed
version-slack = refl

pub extents-slack : has_slack 2 last_trie (child root 4) (put_of (codes "c") [] ∷ []) 3 ≡ true
unfolding rank_cmp key_hash first_words schedule rounds compress hash_after digest_bytes sha1 node_at first_fit counts_within columns column_load column_mark sent_cost room sendings placement needed
extents-slack = refl

pub no-slack : has_slack 2 last_trie (child root 4) (put_of (codes "c") [] ∷ []) 2 ≡ false
unfolding rank_cmp key_hash first_words schedule rounds compress hash_after digest_bytes sha1 node_at first_fit counts_within columns column_load column_mark sent_cost room sendings placement needed
no-slack = refl

-- ---- the bound

abbrev in_root : Stop
in_root = record { node = root; index = 0; extent = 100 }

abbrev in_pile : ℕ → Stop
in_pile i = record { node = child root 4; index = i; extent = i }

abbrev holds : Image → Stop → Bool
holds image s = holds_key (codes "a") (items_at two_levels image s.extent)

-- the tables from the i-th on
abbrev met_from : Image → ℕ → List Stop
met_from image i = up_to_first (holds image) (drop i (stops 2 grouped_trie (codes "a")))

met_second : (image : Image) → holds image in_root ≡ false → holds image (in_pile 65) ≡ false → holds image (in_pile 64) ≡ true → met two_levels image grouped_trie (codes "a") ≡ in_root ∷ in_pile 65 ∷ in_pile 64 ∷ []
unfolding key_hash first_words schedule rounds compress hash_after digest_bytes sha1 node_at path_number
met_second image a b c =
    (λ i. in_root ∷ cond (a i) [] (met_from image 1)) ∙ (λ i. in_root ∷ in_pile 65 ∷ cond (b i) [] (met_from image 2)) ∙ (λ i. in_root ∷ in_pile 65 ∷ in_pile 64 ∷ cond (c i) [] (met_from image 3))

met_first : (image : Image) → holds image in_root ≡ false → holds image (in_pile 65) ≡ false → holds image (in_pile 64) ≡ false → holds image (in_pile 63) ≡ true → met two_levels image grouped_trie (codes "a") ≡ in_root ∷ in_pile 65 ∷ in_pile 64 ∷ in_pile 63 ∷ []
unfolding key_hash first_words schedule rounds compress hash_after digest_bytes sha1 node_at path_number
met_first image a b c d =
    (λ i. in_root ∷ cond (a i) [] (met_from image 1)) ∙ (λ i. in_root ∷ in_pile 65 ∷ cond (b i) [] (met_from image 2)) ∙ (λ i. in_root ∷ in_pile 65 ∷ in_pile 64 ∷ cond (c i) [] (met_from image 3))
    ∙ (λ i. in_root ∷ in_pile 65 ∷ in_pile 64 ∷ in_pile 63 ∷ cond (d i) [] (met_from image 4))

sent_65 : (image : Image) → sends_on (extent_in two_levels image 65 57) ≡ Some (record { target = 3; mark = 4205160444 }) → is_sent two_levels image (codes "a") (in_pile 65) ≡ true
unfolding key_hash first_words schedule rounds compress hash_after digest_bytes sha1 node_at path_number
sent_65 image e = ap (λ o. option_map_or (λ (t : Sends). nat_le t.mark 4205160444) o false) e

sent_64 : (image : Image) → sends_on (extent_in two_levels image 64 57) ≡ Some (record { target = 3; mark = 4205160445 }) → is_sent two_levels image (codes "a") (in_pile 64) ≡ false
unfolding key_hash first_words schedule rounds compress hash_after digest_bytes sha1 node_at path_number
sent_64 image e = ap (λ o. option_map_or (λ (t : Sends). nat_le t.mark 4205160444) o false) e

sent_63 : (image : Image) → sends_on (extent_in two_levels image 63 57) ≡ None → is_sent two_levels image (codes "a") (in_pile 63) ≡ false
unfolding key_hash first_words schedule rounds compress hash_after digest_bytes sha1 node_at path_number
sent_63 image e = ap (λ o. option_map_or (λ (t : Sends). nat_le t.mark 4205160444) o false) e

bound_by_parts : (o : Opened) (image : Image) → o.named.geometry ≡ two_levels → o.named.manifest.trie ≡ grouped_trie → o.groups ≡ [] → read_bound o image [] (codes "a") ≡ reads_of two_levels image (codes "a") (met two_levels image grouped_trie (codes "a"))
unfolding read_bound
bound_by_parts o image geometry trie groups = λ i. cond (holds_key (codes "a") (items_in (groups i) ++ [])) 0 (reads_of (geometry i) image (codes "a") (met (geometry i) image (trie i) (codes "a")))

reads_second : (image : Image) → covers (extent_in two_levels image 100 64) 57 (codes "a") ≡ false → covers (extent_in two_levels image 65 64) 57 (codes "a") ≡ true → covers (extent_in two_levels image 64 64) 57 (codes "a") ≡ true
    → is_sent two_levels image (codes "a") (in_pile 65) ≡ true → is_sent two_levels image (codes "a") (in_pile 64) ≡ false → reads_of two_levels image (codes "a") (in_root ∷ in_pile 65 ∷ in_pile 64 ∷ []) ≡ 4
unfolding reads_of key_hash first_words schedule rounds compress hash_after digest_bytes sha1
reads_second image a b c s t = λ i.
    0 + cond (a i) 1 0 + cond (b i) 1 0 + cond (c i) 1 0
    + (0 + cond (a i && is_sent two_levels image (codes "a") in_root) 1 0 + cond (b i && s i) 1 0 + cond (c i && t i) 1 0)
    + 1

reads_first : (image : Image) → covers (extent_in two_levels image 100 64) 57 (codes "a") ≡ false → covers (extent_in two_levels image 65 64) 57 (codes "a") ≡ true → covers (extent_in two_levels image 64 64) 57 (codes "a") ≡ true → covers (extent_in two_levels image 63 64) 57 (codes "a") ≡ true
    → is_sent two_levels image (codes "a") (in_pile 65) ≡ true → is_sent two_levels image (codes "a") (in_pile 64) ≡ false → is_sent two_levels image (codes "a") (in_pile 63) ≡ false → reads_of two_levels image (codes "a") (in_root ∷ in_pile 65 ∷ in_pile 64 ∷ in_pile 63 ∷ []) ≡ 6
unfolding reads_of key_hash first_words schedule rounds compress hash_after digest_bytes sha1
reads_first image a b c d s t u = λ i.
    0 + cond (a i) 1 0 + cond (b i) 1 0 + cond (c i) 1 0 + cond (d i) 1 0
    + (0 + cond (a i && is_sent two_levels image (codes "a") in_root) 1 0 + cond (b i && s i) 1 0 + cond (c i && t i) 1 0 + cond (d i && u i) 1 0)
    + 2

pub second-bound : (o : Opened) (image : Image) → o.named.geometry ≡ two_levels → o.named.manifest.trie ≡ grouped_trie → o.groups ≡ []
    → holds_key (codes "a") (items_at two_levels image 100) ≡ false → holds_key (codes "a") (items_at two_levels image 65) ≡ false → holds_key (codes "a") (items_at two_levels image 64) ≡ true
    → covers (extent_in two_levels image 100 64) 57 (codes "a") ≡ false → covers (extent_in two_levels image 65 64) 57 (codes "a") ≡ true → covers (extent_in two_levels image 64 64) 57 (codes "a") ≡ true
    → sends_on (extent_in two_levels image 65 57) ≡ Some (record { target = 3; mark = 4205160444 }) → sends_on (extent_in two_levels image 64 57) ≡ Some (record { target = 3; mark = 4205160445 })
    → read_bound o image [] (codes "a") ≡ 4
second-bound o image geometry trie groups h100 h65 h64 c100 c65 c64 s65 s64 =
    bound_by_parts o image geometry trie groups ∙ ap (reads_of two_levels image (codes "a")) (met_second image h100 h65 h64) ∙ reads_second image c100 c65 c64 (sent_65 image s65) (sent_64 image s64)

pub first-bound : (o : Opened) (image : Image) → o.named.geometry ≡ two_levels → o.named.manifest.trie ≡ grouped_trie → o.groups ≡ []
    → holds_key (codes "a") (items_at two_levels image 100) ≡ false → holds_key (codes "a") (items_at two_levels image 65) ≡ false → holds_key (codes "a") (items_at two_levels image 64) ≡ false → holds_key (codes "a") (items_at two_levels image 63) ≡ true
    → covers (extent_in two_levels image 100 64) 57 (codes "a") ≡ false → covers (extent_in two_levels image 65 64) 57 (codes "a") ≡ true → covers (extent_in two_levels image 64 64) 57 (codes "a") ≡ true → covers (extent_in two_levels image 63 64) 57 (codes "a") ≡ true
    → sends_on (extent_in two_levels image 65 57) ≡ Some (record { target = 3; mark = 4205160444 }) → sends_on (extent_in two_levels image 64 57) ≡ Some (record { target = 3; mark = 4205160445 }) → sends_on (extent_in two_levels image 63 57) ≡ None
    → read_bound o image [] (codes "a") ≡ 6
first-bound o image geometry trie groups h100 h65 h64 h63 c100 c65 c64 c63 s65 s64 s63 =
    bound_by_parts o image geometry trie groups ∙ ap (reads_of two_levels image (codes "a")) (met_first image h100 h65 h64 h63) ∙ reads_first image c100 c65 c64 c63 (sent_65 image s65) (sent_64 image s64) (sent_63 image s63)

pub pending-bound : (o : Opened) (image : Image) → o.groups ≡ [] → read_bound o image (delete_of (codes "a") ∷ []) (codes "a") ≡ 0
unfolding read_bound
pending-bound o image groups = λ i. cond (holds_key (codes "a") (items_in (groups i) ++ delete_of (codes "a") ∷ [])) 0 (reads_of o.named.geometry image (codes "a") (met o.named.geometry image o.named.manifest.trie (codes "a")))
