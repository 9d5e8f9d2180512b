-- Reading and writing of rows, tallies and account items fit each other.
use Rattle.std.proofs.Common.{◌≡◌, ℕ, ◌+◌, ◌≤◌, true, eqb, leb, List, [], ◌++◌, length, take, drop, Ok, sym, refl, ap, ◌∙◌, subst, arith}
use Rattle.std.specs.List.{flat_map}
use Rattle.std.proofs.ByRecursion.{All-take}
use Rattle.std.proofs.lemmas.List.{append_assoc, append-nil, length-append, length-drop, length-take-le, drop-drop, drop-take, drop_all, take_at, take-append-drop}
use Rattle.std.proofs.lemmas.Bool.{le-leb, eq-eqb, leb-true, eqb-true, and_parts, and_from}
use Rattle.account.specs.declared.refusal.Refusal.TheVariants.{CutShort, Malformed}
use Rattle.account.specs.declared.tally.Row.{Row}
use Rattle.account.specs.declared.tally.Tally.{Tally}
use Rattle.account.specs.Parts.{part_ok}
use Rattle.items.specs.AccountItems.{row_bytes, tally_bytes, body_bytes, account_bytes, as_row, row_at, tally_at, part_at, numbers_at, of_account, in_body, account_at, only_account, RowFits, TallyFits, ItemFits}
use Rattle.items.specs.Items.{kind_of, kind_at, length_at, whole_body, body_at}
use Rattle.numbers.specs.Numbers.{NumberFits, number_bytes, number_at}
use Rattle.numbers.specs.Reading.{and_then, many, ReadsBack, ReadsOnly, Stand, Bytes}
use Rattle.items.specs.declared.item.AccountItem.{AccountItem}
use Rattle.items.specs.declared.item.Body.{Body}
use Rattle.items.specs.declared.item.Kind.{Kind}
use Rattle.items.specs.declared.item.Kind.TheVariants.{Account}
use Rattle.items.proofs.KindCodec.{account_named}
use Rattle.numbers.proofs.Codecs.{number_back, number_only, many_back, many_only}
use Rattle.items.proofs.Lengths.{body-most, body_some, account-length}
use Rattle.numbers.proofs.Stands.{behind, stand_join, then_ok, then_inv, ok_same, passed}

-- ROWS

pub row_back : ReadsBack row_at row_bytes RowFits
row_back bs rest p r fits stands = ap as_row (many_back number_at number_bytes NumberFits number_back 8 bs rest p r.counts fits stands)

pub row_only : ReadsOnly row_at row_bytes RowFits
row_only bs p q r all h =
    let g = then_inv (many number_at 8 bs p) _ (r, q) h in
    let only = many_only number_at number_bytes NumberFits number_only 8 bs p g.0.1 g.0.0 all g.1 in
    let P : Row × ℕ → Type 0 = λ y. RowFits y.0 × Stand bs p (row_bytes y.0) y.1 in
    subst P (ok_same _ _ g.2) only

-- TALLIES

pub tally_back : ReadsBack tally_at tally_bytes TallyFits
tally_back bs rest p t fits stands =
    let one = number_bytes t.reserve in
    let two = flat_map row_bytes t.rows in
    let three = row_bytes t.issued in
    let s₀ : drop p bs ≡ one ++ (two ++ (three ++ rest)) = stands ∙ append_assoc one (two ++ three) rest ∙ ap (λ (x : List ℕ). one ++ x) (append_assoc two three rest) in
    let p₁ = p + length one in
    let s₁ = behind bs one (two ++ (three ++ rest)) p s₀ in
    let p₂ = p₁ + length two in
    let s₂ = behind bs two (three ++ rest) p₁ s₁ in
    let end : p₂ + length three ≡ p + length (one ++ (two ++ three)) = omega (arith, length-append one (two ++ three), length-append two three) in
    then_ok _ (number_back bs _ p t.reserve fits.reserve s₀)
    (then_ok _ (many_back row_at row_bytes RowFits row_back 8 bs _ p₁ t.rows fits.rows s₁)
    (then_ok _ (row_back bs rest p₂ t.issued fits.issued s₂) (ap (λ (q : ℕ). Ok (t, q)) end)))

pub tally_only : ReadsOnly tally_at tally_bytes TallyFits
tally_only bs p q t all h =
    let m = then_inv (number_at bs p) _ (t, q) h in
    let r = then_inv (many row_at 8 bs m.0.1) _ (t, q) m.2 in
    let u = then_inv (row_at bs r.0.1) _ (t, q) r.2 in
    let one = number_only bs p m.0.1 m.0.0 all m.1 in
    let two = many_only row_at row_bytes RowFits row_only 8 bs m.0.1 r.0.1 r.0.0 all r.1 in
    let three = row_only bs r.0.1 u.0.1 u.0.0 all u.1 in
    let P : Tally × ℕ → Type 0 = λ y. TallyFits y.0 × Stand bs p (tally_bytes y.0) y.1 in
    subst P (ok_same _ _ u.2) (
      record { reserve = one.0; rows = two.0; issued = three.0 },
      stand_join bs p _ _ _ _ one.1 (stand_join bs _ _ _ _ _ two.1 three.1),
    )

-- BODIES

abbrev PartFits : ℕ → Type 0
PartFits n = part_ok n ≡ true

part_small : (n : ℕ) → PartFits n → (1 ≤ n) × (n ≤ 100000)
part_small n h = let both = and_parts (leb 1 n) (leb n 100000) h in (leb-true 1 n both.0, leb-true n 100000 both.1)

pub part_fits : (n : ℕ) → 1 ≤ n → n ≤ 100000 → PartFits n
part_fits n a b = and_from (leb 1 n) (leb n 100000) (le-leb 1 n a) (le-leb n 100000 b)

pub part_back : ReadsBack part_at number_bytes PartFits
part_back bs rest p n fits stands =
    then_ok _ (number_back bs rest p n (omega (arith, (part_small n fits).1)) stands) (rw fits)

pub part_only : ReadsOnly part_at number_bytes PartFits
part_only bs p q n all h =
    let g = then_inv (number_at bs p) _ (n, q) h in
    let t = passed (part_ok g.0.0) g.0 (n, q) (Malformed p) g.2 in
    let only = number_only bs p g.0.1 g.0.0 all g.1 in
    let P : ℕ × ℕ → Type 0 = λ y. PartFits y.0 × Stand bs p (number_bytes y.0) y.1 in
    subst P t.1 (t.0, only.1)

pub numbers_back : ReadsBack numbers_at body_bytes ItemFits
numbers_back bs rest p i fits stands =
    let one = number_bytes i.part in
    let two = tally_bytes i.tally in
    let s₀ : drop p bs ≡ one ++ (two ++ rest) = stands ∙ append_assoc one two rest in
    let p₁ = p + length one in
    let s₁ = behind bs one (two ++ rest) p s₀ in
    let end : p₁ + length two ≡ p + length (one ++ two) = omega (arith, length-append one two) in
    then_ok _ (part_back bs _ p i.part (part_fits i.part fits.least fits.most) s₀)
    (then_ok _ (tally_back bs rest p₁ i.tally fits.tally s₁) (ap (λ (q : ℕ). Ok (i, q)) end))

pub numbers_only : ReadsOnly numbers_at body_bytes ItemFits
numbers_only bs p q i all h =
    let n = then_inv (part_at bs p) _ (i, q) h in
    let t = then_inv (tally_at bs n.0.1) _ (i, q) n.2 in
    let one = part_only bs p n.0.1 n.0.0 all n.1 in
    let two = tally_only bs n.0.1 t.0.1 t.0.0 all t.1 in
    let small = part_small n.0.0 one.0 in
    let P : AccountItem × ℕ → Type 0 = λ y. ItemFits y.0 × Stand bs p (body_bytes y.0) y.1 in
    subst P (ok_same _ _ t.2) (record { least = small.0; most = small.1; tally = two.0 }, stand_join bs p _ _ _ _ one.1 two.1)

-- ITEMS

module _ (bs rest : List ℕ) (p : ℕ) (i : AccountItem) (fits : ItemFits i) (stands : drop p bs ≡ account_bytes i ++ rest) where
  abbrev body : List ℕ
  body = body_bytes i

  abbrev len : ℕ
  len = length body

  -- where the length and the body begin
  abbrev p₁ : ℕ
  p₁ = p + length (number_bytes 1)

  abbrev p₂ : ℕ
  p₂ = p₁ + length (number_bytes len)

  s₀ : drop p bs ≡ number_bytes 1 ++ (number_bytes len ++ (body ++ rest))
  unfolding account_bytes
  s₀ = stands ∙ append_assoc (number_bytes 1) (number_bytes len ++ body) rest ∙ ap (λ (x : List ℕ). number_bytes 1 ++ x) (append_assoc (number_bytes len) body rest)

  s₁ : drop p₁ bs ≡ number_bytes len ++ (body ++ rest)
  s₁ = behind bs (number_bytes 1) (number_bytes len ++ (body ++ rest)) p s₀

  pub s₂ : drop p₂ bs ≡ body ++ rest
  s₂ = behind bs (number_bytes len) (body ++ rest) p₁ s₁

  short : len ≤ 1000000000
  short = omega (arith, body-most i fits)

  pub kind_back : kind_at bs p ≡ Ok (Account, p₁)
  kind_back = then_ok _ (number_back bs _ p 1 (omega arith) s₀) refl

  whole : p₂ + len ≤ length bs
  whole = omega (arith, ap length s₂, length-drop p₂ bs, length-append body rest, body_some i)

  pub body_back : body_at bs Account p₁ ≡ Ok (record { from = p₂; end = p₂ + len })
  body_back =
      let lens : length_at Account bs p₁ ≡ Ok (len, p₂) = then_ok _ (number_back bs _ p₁ len short s₁) (rw (le-leb len 1000000000 short)) in
      then_ok _ lens (rw (le-leb (p₂ + len) (length bs) whole))

  inner : drop p₂ (take (p₂ + len) bs) ≡ body ++ []
  inner = drop-take p₂ len bs ∙ ap (take len) s₂ ∙ take_at body rest len refl ∙ sym (append-nil body)

  in_body_back : in_body bs (record { from = p₂; end = p₂ + len }) ≡ Ok (i, p₂ + len)
  in_body_back = then_ok _ (numbers_back (take (p₂ + len) bs) [] p₂ i fits inner) (rw (eq-eqb (p₂ + len) (p₂ + len) refl))

  pub item_back : account_at bs p ≡ Ok (i, p + length (account_bytes i))
  unfolding account_at
  item_back =
      let end : p₂ + len ≡ p + length (account_bytes i) = omega (arith, account-length i) in
      then_ok _ kind_back (then_ok _ body_back (in_body_back ∙ ap (λ (q : ℕ). Ok (i, q)) end))

pub account_back : ReadsBack account_at account_bytes ItemFits
account_back bs rest p i fits stands = item_back bs rest p i fits stands

-- what stands in the front of some bytes stands in them
stand_front : (bs : List ℕ) (p end : ℕ) (x : List ℕ) → end ≤ length bs → Stand (take end bs) p x end → Stand bs p x end
stand_front bs p end x within h =
    let e : end ≡ p + length x = h.after in
    let none : drop end (take end bs) ≡ [] = drop_all end (take end bs) (omega (arith, length-take-le end bs within)) in
    let here : take (length x) (drop p bs) ≡ x =
    sym (drop-take p (length x) bs) ∙ ap (λ (n : ℕ). drop p (take n bs)) (sym e) ∙ h.here ∙ ap (λ (y : List ℕ). x ++ y) none ∙ append-nil x in
    let back : drop (length x) (drop p bs) ≡ drop end bs = drop-drop (length x) p bs ∙ ap (λ (n : ℕ). drop n bs) (sym e) in
    record {
      here = sym (take-append-drop (length x) (drop p bs)) ∙ ap (λ (y : List ℕ). y ++ drop (length x) (drop p bs)) here ∙ ap (λ (y : List ℕ). x ++ y) back;
      after = e;
    }

module _ (bs : List ℕ) (p : ℕ) (all : Bytes bs) where
  assembled : (k l : ℕ × ℕ) (i : AccountItem) (end : ℕ) → number_at bs p ≡ Ok k → k.0 ≡ 1 → number_at bs k.1 ≡ Ok l → l.1 + l.0 ≤ length bs → l.1 + l.0 ≡ end → numbers_at (take end bs) l.1 ≡ Ok (i, end) → ItemFits i × Stand bs p (account_bytes i) end
  unfolding account_bytes
  assembled k l i end kind one lens within ends numbers =
      let h₀ = (number_only bs p k.1 k.0 all kind).1 in
      let h₁ = (number_only bs k.1 l.1 l.0 all lens).1 in
      let h₂ = numbers_only (take end bs) l.1 end i (All-take _ end bs all) numbers in
      let inside = stand_front bs l.1 end (body_bytes i) (omega arith) h₂.1 in
      let len : l.0 ≡ length (body_bytes i) = omega (arith, h₂.1.after) in
      let h₀' : Stand bs p (number_bytes 1) k.1 = subst (λ (n : ℕ). Stand bs p (number_bytes n) k.1) one h₀ in
      let h₁' : Stand bs k.1 (number_bytes (length (body_bytes i))) l.1 = subst (λ (n : ℕ). Stand bs k.1 (number_bytes n) l.1) len h₁ in
      (h₂.0, stand_join bs p _ _ _ _ h₀' (stand_join bs _ _ _ _ _ h₁' inside))

  from-body : (k l : ℕ × ℕ) (b : Body) (i : AccountItem) (q : ℕ) → number_at bs p ≡ Ok k → k.0 ≡ 1 → number_at bs k.1 ≡ Ok l → whole_body bs l ≡ Ok b → in_body bs b ≡ Ok (i, q) → ItemFits i × Stand bs p (account_bytes i) q
  from-body k l b i q kind one lens whole inside =
      let w = passed (leb (l.1 + l.0) (length bs)) (record { from = l.1; end = l.1 + l.0 }) b (CutShort (length bs)) whole in
      let P : Body → Type 0 = λ x. in_body bs x ≡ Ok (i, q) in
      let n = then_inv (numbers_at (take (l.1 + l.0) bs) l.1) _ (i, q) (subst P (sym w.1) inside) in
      let last = passed (eqb n.0.1 (l.1 + l.0)) n.0 (i, q) (Malformed n.0.1) n.2 in
      let end : l.1 + l.0 ≡ q = sym (eqb-true n.0.1 (l.1 + l.0) last.0) ∙ ap (λ (y : AccountItem × ℕ). y.1) last.1 in
      let numbers : numbers_at (take q bs) l.1 ≡ Ok (i, q) = subst (λ (e : ℕ). numbers_at (take e bs) l.1 ≡ Ok (i, q)) end (n.1 ∙ ap (λ (y : AccountItem × ℕ). Ok y) last.1) in
      assembled k l i q kind one lens (leb-true _ _ w.0) end numbers

  from-kind : (k : ℕ × ℕ) (g : Kind × ℕ) (n q : ℕ) (i : AccountItem) → number_at bs p ≡ Ok k → kind_of p k ≡ Ok g → of_account p g ≡ Ok n → and_then (body_at bs Account n) (in_body bs) ≡ Ok (i, q) → ItemFits i × Stand bs p (account_bytes i) q
  from-kind k g n q i here kind account h =
      let one = account_named p k g n kind account in
      let b = then_inv (body_at bs Account n) (in_body bs) (i, q) h in
      let l = then_inv (length_at Account bs n) (whole_body bs) b.0 b.1 in
      let r = then_inv (number_at bs n) _ l.0 l.1 in
      let small = passed (leb r.0.0 1000000000) r.0 l.0 (Malformed n) r.2 in
      let lens : number_at bs k.1 ≡ Ok l.0 = ap (number_at bs) one.1 ∙ r.1 ∙ ap (λ (y : ℕ × ℕ). Ok y) small.1 in
      from-body k l.0 b.0 i q here one.0 lens l.2 b.2

pub account_only : ReadsOnly account_at account_bytes ItemFits
unfolding account_at
account_only bs p q i all h =
    let g = then_inv (kind_at bs p) _ (i, q) h in
    let k = then_inv (number_at bs p) (kind_of p) g.0 g.1 in
    let o = then_inv (of_account p g.0) _ (i, q) g.2 in
    from-kind bs p all k.0 g.0 o.0 q i k.1 k.2 o.1 o.2

-- ONE ITEM AND NOTHING ELSE

pub one_back : (i : AccountItem) → ItemFits i → only_account (account_bytes i) ≡ Ok i
one_back i fits =
    let bs = account_bytes i in
    then_ok _ (account_back bs [] 0 i fits (sym (append-nil bs))) (rw (eq-eqb (0 + length bs) (length bs) (omega arith)))

pub one_only : (bs : List ℕ) (i : AccountItem) → Bytes bs → only_account bs ≡ Ok i → ItemFits i × (bs ≡ account_bytes i)
one_only bs i all h =
    let g = then_inv (account_at bs 0) _ i h in
    let t = passed (eqb g.0.1 (length bs)) g.0.0 i (Malformed g.0.1) g.2 in
    let only = account_only bs 0 g.0.1 g.0.0 all g.1 in
    let none : drop g.0.1 bs ≡ [] = drop_all g.0.1 bs (omega (arith, eqb-true g.0.1 (length bs) t.0)) in
    let P : AccountItem → Type 0 = λ x. ItemFits x × (bs ≡ account_bytes x) in
    subst P t.1 (only.0, only.1.here ∙ ap (λ (y : List ℕ). account_bytes g.0.0 ++ y) none ∙ append-nil (account_bytes g.0.0))
