use Rattle.std.proofs.Common.{◌≡◌, ◌++◌, ◌∷◌, [], List, slice_index_or, ap, ap₂, sym, ◌∙◌}
use Rattle.std.specs.List.{list_any}
use Rattle.dt_live.specs.declared.index.IndexEntry.{IndexEntry}
use Rattle.dt_live.specs.Index.{absent, slot_of}
use Rattle.dt_live.proofs.Keys.{Key, is_this, as-met, as-new, met-more, slot-more}
use Rattle.dt_live.proofs.index.Index.slot.Goals as goal

pub returns-in_err-reserve-clause-same : goal.returns-in_err-reserve-clause-same
returns-in_err-reserve-clause-same c n k =
    ap (λ (ps : List IndexEntry). slice_index_or ps (slot_of c.args.self.now.keys.keys n k) absent) c.in_err-reserve.ensures.items

pub returns-in_ok-push-clause-same : goal.returns-in_ok-push-clause-same
returns-in_ok-push-clause-same c n k =
    let index = c.args.self.now in
    let keys : List Key = index.keys.keys in
    let key : Key = (c.args.node, record { bytes = c.args.name }) in
    let e = c.in_ok-slot.ensures.keys ∙ as-new keys key c.in_ok-slot.is_new (list_any (is_this key.0 key.1.bytes.now) keys) c.in_ok-slot.ensures.added c.if-is_new.true in
    let ps : c.push.new.self.items ≡ index.entries.items ++ absent ∷ [] = c.in_ok-push.ensures.items ∙ ap (λ (l : List IndexEntry). l ++ absent ∷ []) c.in_ok-reserve.ensures.items in
    ap₂ (λ (l : List IndexEntry) (ks : List Key). slice_index_or l (slot_of ks n k) absent) ps e
    ∙ met-more keys index.entries.items key index.even n k

pub returns-in_ok-push-clause-slot : goal.returns-in_ok-push-clause-slot
returns-in_ok-push-clause-slot c =
    let keys : List Key = c.args.self.now.keys.keys in
    let key : Key = (c.args.node, record { bytes = c.args.name }) in
    let e = c.in_ok-slot.ensures.keys ∙ as-new keys key c.in_ok-slot.is_new (list_any (is_this key.0 key.1.bytes.now) keys) c.in_ok-slot.ensures.added c.if-is_new.true in
    c.in_ok-slot.ensures.index ∙ sym (ap (λ (ks : List Key). slot_of ks key.0 key.1.bytes.now) e ∙ slot-more keys key)

pub returns-else-is_new-clause-same : goal.returns-else-is_new-clause-same
returns-else-is_new-clause-same c n k =
    let keys : List Key = c.args.self.now.keys.keys in
    let key : Key = (c.args.node, record { bytes = c.args.name }) in
    let e = c.in_ok-slot.ensures.keys ∙ as-met keys key c.in_ok-slot.is_new (list_any (is_this key.0 key.1.bytes.now) keys) c.in_ok-slot.ensures.added c.if-is_new.false in
    ap₂ (λ (l : List IndexEntry) (ks : List Key). slice_index_or l (slot_of ks n k) absent) c.in_ok-reserve.ensures.items e

pub returns-else-is_new-clause-slot : goal.returns-else-is_new-clause-slot
returns-else-is_new-clause-slot c =
    let keys : List Key = c.args.self.now.keys.keys in
    let key : Key = (c.args.node, record { bytes = c.args.name }) in
    let e = c.in_ok-slot.ensures.keys ∙ as-met keys key c.in_ok-slot.is_new (list_any (is_this key.0 key.1.bytes.now) keys) c.in_ok-slot.ensures.added c.if-is_new.false in
    c.in_ok-slot.ensures.index ∙ sym (ap (λ (ks : List Key). slot_of ks key.0 key.1.bytes.now) e)
