-- Reading and writing of remarks fit each other.
use Rattle.std.proofs.Common.{◌≡◌, ℕ, ◌+◌, ◌≤◌, false, eqb, leb, List, ◌++◌, length, drop, Ok, sym, refl, ap, ◌∙◌, subst, arith}
use Rattle.std.proofs.lemmas.List.{length-append, length-drop}
use Rattle.std.proofs.lemmas.Bool.{le-leb, le-ltb, leb-true, ltb-false, eq-eqb, eqb-true}
use Rattle.account.specs.declared.refusal.Refusal.TheVariants.{CutShort, Malformed}
use Rattle.items.specs.Items.{item_bytes, kind_of, kind_at, length_at, whole_body, body_at}
use Rattle.items.specs.Laws.{RemarksReadBack, RemarksReadOnly}
use Rattle.numbers.specs.Numbers.{number_bytes, number_at}
use Rattle.items.specs.Parcels.{of_remark, text_in}
use Rattle.numbers.specs.Reading.{Bytes}
use Rattle.items.specs.Writing.{too_long}
use Rattle.items.specs.declared.item.Body.{Body}
use Rattle.items.specs.declared.item.Kind.TheVariants.{Remark}
use Rattle.items.proofs.KindCodec.{remark_named}
use Rattle.numbers.proofs.Codecs.{number_back, number_only}
use Rattle.numbers.proofs.Stands.{behind, then_ok, then_inv, passed}

pub remarks_read_back : RemarksReadBack
remarks_read_back text short =
    let len = length text in
    let bs = item_bytes Remark text in
    let p₁ = 0 + length (number_bytes 2) in
    let p₂ = p₁ + length (number_bytes len) in
    let few : len ≤ 200 = ltb-false 200 len short in
    let s₀ : drop 0 bs ≡ number_bytes 2 ++ (number_bytes len ++ text) = refl in
    let s₁ = behind bs (number_bytes 2) (number_bytes len ++ text) 0 s₀ in
    let s₂ = behind bs (number_bytes len) text p₁ s₁ in
    let whole : p₂ + len ≡ length bs = omega (arith, length-append (number_bytes 2) (number_bytes len ++ text), length-append (number_bytes len) text) in
    let kind : kind_at bs 0 ≡ Ok (Remark, p₁) = then_ok _ (number_back bs _ 0 2 (omega arith) s₀) refl in
    let lens : length_at Remark bs p₁ ≡ Ok (len, p₂) = then_ok _ (number_back bs _ p₁ len (omega arith) s₁) (rw (le-leb len 200 few)) in
    let body : body_at bs Remark p₁ ≡ Ok (record { from = p₂; end = p₂ + len }) = then_ok _ lens (rw (le-leb (p₂ + len) (length bs) (omega arith))) in
    then_ok _ kind (then_ok _ body (rw (eq-eqb (p₂ + len) (length bs) whole) (ap (λ (x : List ℕ). Ok x) s₂)))

module _ (bs text : List ℕ) (all : Bytes bs) where
  from-body : (k l : ℕ × ℕ) (b : Body) → number_at bs 0 ≡ Ok k → k.0 ≡ 2 → number_at bs k.1 ≡ Ok l → l.0 ≤ 200 → whole_body bs l ≡ Ok b → text_in bs b ≡ Ok text → (too_long text ≡ false) × (bs ≡ item_bytes Remark text)
  from-body k l b kind two lens few whole inside =
      let w = passed (leb (l.1 + l.0) (length bs)) (record { from = l.1; end = l.1 + l.0 }) b (CutShort (length bs)) whole in
      let P : Body → Type 0 = λ x. text_in bs x ≡ Ok text in
      let t = passed (eqb (l.1 + l.0) (length bs)) (drop l.1 bs) text (Malformed (l.1 + l.0)) (subst P (sym w.1) inside) in
      let end = eqb-true (l.1 + l.0) (length bs) t.0 in
      let len : l.0 ≡ length text = omega (arith, ap length t.1, length-drop l.1 bs) in
      let one = (number_only bs 0 k.1 k.0 all kind).1 in
      let more = (number_only bs k.1 l.1 l.0 all lens).1 in (
        le-ltb 200 (length text) (omega arith),
        one.here ∙ ap (λ (n : ℕ). number_bytes n ++ drop k.1 bs) two
            ∙ ap (λ (x : List ℕ). number_bytes 2 ++ x) (more.here ∙ ap (λ (n : ℕ). number_bytes n ++ drop l.1 bs) len ∙ ap (λ (x : List ℕ). number_bytes (length text) ++ x) t.1),
      )

pub remarks_read_only : RemarksReadOnly
remarks_read_only bs text all h =
    let g = then_inv (kind_at bs 0) _ text h in
    let k = then_inv (number_at bs 0) (kind_of 0) g.0 g.1 in
    let o = then_inv (of_remark 0 g.0) _ text g.2 in
    let b = then_inv (body_at bs Remark o.0) (text_in bs) text o.2 in
    let l = then_inv (length_at Remark bs o.0) (whole_body bs) b.0 b.1 in
    let r = then_inv (number_at bs o.0) _ l.0 l.1 in
    let kind = remark_named 0 k.0 g.0 o.0 k.2 o.1 in
    let small = passed (leb r.0.0 200) r.0 l.0 (Malformed o.0) r.2 in
    let lens : number_at bs k.0.1 ≡ Ok l.0 = ap (number_at bs) kind.1 ∙ r.1 ∙ ap (λ (y : ℕ × ℕ). Ok y) small.1 in
    let few : l.0.0 ≤ 200 = omega (arith, leb-true r.0.0 200 small.0, ap (λ (y : ℕ × ℕ). y.0) small.1) in
    from-body bs text all k.0 l.0 b.0 k.1 kind.0 lens few l.2 b.2
