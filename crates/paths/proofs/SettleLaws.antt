-- Nearest first gives the exact distances: what is settled is never above what is not, so later offers never lower a settled node,
-- and when all nodes are settled the distances have the certificate of `DistanceLaws`.
use Prim.Native.Nat.{ℕ, zero, suc, ◌≤◌, ◌<◌, min, zero-le}
use native.Mathlib.Nat.{le_refl, le_trans, le_of_eq, le_antisymm, lt_of_le_of_lt}
use native.Mathlib.Omega.{arith}
use mathlib.Core.Path.{◌≡◌, refl, sym, ap, ap₂, ◌∙◌, subst}
use mathlib.Core.Logic.{◌⊎◌, inl, inr, ⊎_elim}
use mathlib.Core.Bool.{Bool, true, false, not, false≢true}
use mathlib.Core.List.{List, Memᴰ}
use lib.Dec.{T}
use lib.ListN.{length, set, replicate, length-set, length-replicate}
use lib.Seq.{get_or-set_same, get_or-set_other}
use Rattle.measure.specs.Measure.{ceiling, plus}
use Rattle.rule.specs.Round.{Link, Park, through, net_of}
use Rattle.rule.specs.Settles.{ParkOk}
use Rattle.rule.proofs.OfferLaws.{same?}
use Rattle.rule.proofs.Sound.{Within}
use Rattle.rule.proofs.CountLaws.{count, count_le, count_more}
use Rattle.rule.proofs.DistanceLaws.{Certified}
use Rattle.rule.proofs.NetLaws.{sound, arc_link, link_arc}
use Rattle.table.specs.Nodes.{node_at}
use Rattle.table.proofs.FlagLaws.{node_same}
use Rattle.paths.specs.Nearest.{Work, nearest}
use Rattle.paths.specs.Offers.{offered_all, settle_node, settle_nearest, settle_nodes, unsettled, dists_from}
use Rattle.paths.proofs.LowerLaws.{Joins, Offers, offers, lowered_is}
use Rattle.paths.proofs.NearestLaws.{dist_in, Settled, Waiting, NearestOf, nearest_is}

-- a flag that is set, the others, and flags of which none is set
flag_new : (F : List Bool) (k : ℕ) → k < length F → node_at false (set F k true) (suc k) ≡ true
flag_new F k h = get_or-set_same F k true false h

flag_old : (F : List Bool) (k j : ℕ) → (j ≡ suc k → ⊥) → node_at false (set F k true) j ≡ node_at false F j
flag_old F k zero m = refl
flag_old F k (suc j) m = get_or-set_other F k j true false (λ e. m (ap suc e))

none_set : (n i : ℕ) → node_at false (replicate n false) i ≡ false
none_set n zero = refl
none_set zero (suc i) = refl
none_set (suc n) (suc zero) = refl
none_set (suc n) (suc (suc i)) = none_set n (suc i)

unset : (b : Bool) → T (not b) → b ≡ false
unset true t = absurd t
unset false t = refl

-- an offer is never below the distance that it starts from
plus_from : (d c : ℕ) → d ≤ ceiling → d ≤ plus d c
plus_from d c h = omega arith

module _ (n root : ℕ) (ls : List Link) where
  -- node i's distance is the offer of a settled node
  pub record Given (w : Work) (i : ℕ) : Type 0 where
    pub by : ℕ
    pub node : Within n by
    pub settled : Settled w by
    pub link : Link
    pub among : Memᴰ link ls
    pub joins : Joins by i link
    pub offer : dist_in w i ≡ plus (dist_in w by) link.cost

  -- what holds at every turn
  pub record Going (w : Work) : Type 0 where
    pub size : length w.dists ≡ n
    pub marks : length w.done ≡ n
    pub start : dist_in w root ≡ 0
    pub capped : (i : ℕ) → dist_in w i ≤ ceiling
    pub order : (s u : ℕ) → Within n s → Within n u → Settled w s → Waiting w u → dist_in w s ≤ dist_in w u
    pub told : (s i : ℕ) → Within n s → Settled w s → Within n i → (l : Link) → Memᴰ l ls → Joins s i l → dist_in w i ≤ plus (dist_in w s) l.cost
    pub given : (i : ℕ) → (i ≡ root → ⊥) → dist_in w i < ceiling → Given w i

  -- a turn
  module _ (w : Work) (g : Going w) (k : ℕ) (near : NearestOf w (length w.dists) (suc k)) where
    u : ℕ
    u = suc k

    d : ℕ
    d = dist_in w (suc k)

    next : Work
    next = record { dists = offered_all (suc k) (dist_in w (suc k)) w.dists ls; done = set w.done k true }

    made : Offers (suc k) (dist_in w (suc k)) ls w.dists (offered_all (suc k) (dist_in w (suc k)) w.dists ls)
    made = offers (suc k) (dist_in w (suc k)) ls w.dists

    here : Within n (suc k)
    here = subst (λ (x : ℕ). Within x (suc k)) g.size (near.node (λ e. absurd (omega arith)))

    was_waiting : Waiting w (suc k)
    was_waiting = near.waiting (λ e. absurd (omega arith))

    nearest_of : (j : ℕ) → Within n j → Waiting w j → dist_in w (suc k) ≤ dist_in w j
    nearest_of j v o = near.least (λ e. absurd (omega arith)) j (subst (λ (x : ℕ). Within x j) (sym g.size) v) o

    -- who is settled after the turn was settled before, or is u
    before : (j : ℕ) → Settled next j → Settled w j ⊎ (j ≡ suc k)
    unfolding next
    before j s = ⊎_elim (λ e. inr e) (λ m. inl (λ z. s (flag_old w.done k j m ∙ z))) (same? j (suc k))

    still : (j : ℕ) → Settled w j → Settled next j
    unfolding next
    still j s = ⊎_elim (λ (e : j ≡ suc k). absurd (s (subst (Waiting w) (sym e) was_waiting))) (λ m z. s (sym (flag_old w.done k j m) ∙ z)) (same? j (suc k))

    now_settled : Settled next (suc k)
    unfolding next
    now_settled z = false≢true (sym z ∙ flag_new w.done k (omega (arith, g.marks, here.1)))

    waited : (j : ℕ) → Waiting next j → Waiting w j
    unfolding next
    waited j o =
        ⊎_elim (λ (e : j ≡ suc k). absurd (now_settled (subst (Waiting next) e o))) (λ m. sym (flag_old w.done k j m) ∙ o) (same? j (suc k))

    -- no distance up to u's changes, and none falls below it
    floor : (j : ℕ) → min (dist_in w j) (dist_in w (suc k)) ≤ dist_in next j
    unfolding next
    floor j =
        ⊎_elim (λ e. omega (arith, e)) (λ e. omega (arith, e.3, plus_from (dist_in w (suc k)) e.0.cost (g.capped (suc k)))) (made.source j)

    same_low : (j : ℕ) → dist_in w j ≤ dist_in w (suc k) → dist_in next j ≡ dist_in w j
    unfolding next
    same_low j h = le_antisymm (made.lower j) (omega (arith, floor j))

    settled_low : (j : ℕ) → Within n j → Settled next j → dist_in w j ≤ dist_in w (suc k)
    settled_low j v s = ⊎_elim (λ o. g.order j (suc k) v here o was_waiting) (λ e. le_of_eq (ap (dist_in w) e)) (before j s)

    -- the offers of u, and of those settled before
    told_next : (s i : ℕ) → Within n s → Settled next s → Within n i → (l : Link) → Memᴰ l ls → Joins s i l → dist_in next i ≤ plus (dist_in next s) l.cost
    unfolding next
    told_next s i v o vi l m j =
        subst (λ (x : ℕ). dist_in next i ≤ plus x l.cost) (sym (same_low s (settled_low s v o)))
        (⊎_elim (λ b. le_trans (made.lower i) (g.told s i v b vi l m j))
        (λ (e : s ≡ suc k). subst (λ (x : ℕ). dist_in next i ≤ plus (dist_in w x) l.cost) (sym e)
        (made.taken l m i (subst (λ (x : ℕ). Joins x i l) e j) (subst (λ (x : ℕ). Within x i) (sym g.size) vi)))
        (before s o))

    given_next : (i : ℕ) → (i ≡ root → ⊥) → dist_in next i < ceiling → Given next i
    unfolding next
    given_next i n' h = ⊎_elim old new (made.source i)
      where
        old : dist_in next i ≡ dist_in w i → Given next i
        old e =
            let b = g.given i n' (lt_of_le_of_lt (le_of_eq (sym e)) h) in
            record {
              by = b.by;
              node = b.node;
              settled = still b.by b.settled;
              link = b.link;
              among = b.among;
              joins = b.joins;
              offer = e ∙ b.offer ∙ ap (λ (x : ℕ). plus x b.link.cost) (sym (same_low b.by (settled_low b.by b.node (still b.by b.settled))));
            }

        new : ((l : Link) × Memᴰ l ls × Joins (suc k) i l × (dist_in next i ≡ plus (dist_in w (suc k)) l.cost)) → Given next i
        new e =
            record {
              by = suc k;
              node = here;
              settled = now_settled;
              link = e.0;
              among = e.1;
              joins = e.2;
              offer = e.3 ∙ ap (λ (x : ℕ). plus x e.0.cost) (sym (same_low (suc k) (le_refl (dist_in w (suc k)))));
            }

    going_next : Going next
    unfolding next
    going_next =
        record {
          size = made.size ∙ g.size;
          marks = length-set w.done k true ∙ g.marks;
          start = le_antisymm (le_trans (made.lower root) (le_of_eq g.start)) (omega arith);
          capped = λ i. le_trans (made.lower i) (g.capped i);
          order = λ s j v vj o p. le_trans (le_of_eq (same_low s (settled_low s v o)))
              (le_trans (settled_low s v o) (le_trans (le_of_eq (min_same (dist_in w (suc k)) (dist_in w j) (nearest_of j vj (waited j p)))) (floor j)));
          told = told_next;
          given = given_next;
        }
      where
        min_same : (a b : ℕ) → a ≤ b → a ≡ min b a
        min_same a b h = omega arith

  -- how many nodes are not settled
  waiting : Work → ℕ
  waiting w = count (λ j. not (node_at false w.done j)) 1 n

  AllSettled : Work → Type 0
  AllSettled w = (j : ℕ) → Within n j → Settled w j

  none_waits : (w : Work) → waiting w ≤ 0 → AllSettled w
  unfolding waiting AllSettled
  none_waits w h j v o =
      let c : 0 < count (λ i. not (node_at false w.done i)) 1 n =
      lt_of_le_of_lt zero-le (count_more (λ _. false) (λ i. not (node_at false w.done i)) (λ i t. absurd t) 1 n j v.0 (omega (arith, v.1)) refl (ap not o)) in
      omega arith

  fewer : (w : Work) (g : Going w) (k : ℕ) (near : NearestOf w (length w.dists) (suc k)) → waiting (next w g k near) < waiting w
  unfolding waiting next
  fewer w g k near =
      count_more (λ j. not (node_at false (next w g k near).done j)) (λ j. not (node_at false w.done j))
      (λ j t. subst T (sym (ap not (waited w g k near j (unset (node_at false (next w g k near).done j) t)))) tt)
      1 n (suc k) (here w g k near).0 (omega (arith, (here w g k near).1))
      (ap not (flag_new w.done k (omega (arith, g.marks, (here w g k near).1)))) (ap not (was_waiting w g k near))

  -- all turns
  turns : (left : ℕ) (w : Work) → Going w → (AllSettled w ⊎ (waiting w ≤ left)) → Going (settle_nodes ls left w) × AllSettled (settle_nodes ls left w)
  unfolding settle_nodes settle_nearest settle_node next AllSettled
  turns zero w g h = (g, ⊎_elim (λ a. a) (λ c. none_waits w c) h)
  turns (suc left) w g h = go (nearest w) (nearest_is w) (λ x y z. turns left x y z)
    where
      go : (b : ℕ) → NearestOf w (length w.dists) b
          → ((x : Work) → Going x → (AllSettled x ⊎ (waiting x ≤ left)) → Going (settle_nodes ls left x) × AllSettled (settle_nodes ls left x))
          → Going (settle_nodes ls left (settle_node ls w b)) × AllSettled (settle_nodes ls left (settle_node ls w b))
      go zero near on = on w g (inl (λ j v. near.none refl j (subst (λ (x : ℕ). Within x j) (sym g.size) v)))
      go (suc k) near on =
          on (next w g k near) (going_next w g k near)
          (inr (⊎_elim (λ a. absurd (a (suc k) (here w g k near) (was_waiting w g k near))) (λ c. omega (arith, fewer w g k near)) h))

  -- at the start
  going_start : Within n root → Going (unsettled n root)
  unfolding unsettled
  going_start v =
      let r = lowered_is (replicate n ceiling) root 0 in
      let long : length (replicate n ceiling) ≡ n = length-replicate n ceiling in
      record {
        size = r.size ∙ long;
        marks = length-replicate n false;
        start = le_antisymm (r.taken (subst (λ (x : ℕ). Within x root) (sym long) v)) zero-le;
        capped = λ i. le_trans (r.lower i) (le_of_eq (node_same ceiling n i));
        order = λ s u a b o p. absurd (o (none_set n s));
        told = λ s i a o b l m j. absurd (o (none_set n s));
        given = λ i n' h. ⊎_elim (λ e. absurd (omega (arith, e, node_same ceiling n i))) (λ e. absurd (n' e.0)) (r.source i);
      }

  settled_all : Within n root → Going (settle_nodes ls n (unsettled n root)) × AllSettled (settle_nodes ls n (unsettled n root))
  unfolding waiting
  settled_all v =
      turns n (unsettled n root) (going_start v) (inr (count_le (λ j. not (node_at false (unsettled n root).done j)) 1 n))

-- the distances that are found have the certificate
pub found_certified : {p : Park} → ParkOk p → Certified (net_of p) (node_at ceiling (dists_from p.nodes p.root p.links))
unfolding dists_from net_of through AllSettled
found_certified {p} ok =
    let r = settled_all p.nodes p.root p.links (sound ok).root in
    let g = r.0 in
    record {
      root = g.start;
      capped = g.capped;
      lower = λ i n a m. let l = arc_link p.links i a m in
          le_trans (g.told a.from i ((sound ok).sender i a m) (r.1 a.from ((sound ok).sender i a m)) ((sound ok).hearer i a m) l.0 l.1
          (⊎_elim (λ e. inr (sym e.1, e.0)) (λ e. inl (sym e.1, e.0)) l.2.ends))
          (le_of_eq (ap (plus (node_at ceiling (settle_nodes p.links p.nodes (unsettled p.nodes p.root)).dists a.from)) (sym l.2.cost)));
      offered = λ i n h. let b = g.given i n h in
          let a = link_arc p.links i b.link b.among b.by (⊎_elim (λ e. inr (e.1, e.0)) (λ e. inl (e.1, e.0)) b.joins) in
          (a.0, a.1, ap₂ (λ (x y : ℕ). plus (node_at ceiling (settle_nodes p.links p.nodes (unsettled p.nodes p.root)).dists x) y) a.2 a.3 ∙ sym b.offer);
    }

pub length_dists : {p : Park} → ParkOk p → length (dists_from p.nodes p.root p.links) ≡ p.nodes
unfolding dists_from net_of
length_dists {p} ok = (settled_all p.nodes p.root p.links (sound ok).root).0.size
