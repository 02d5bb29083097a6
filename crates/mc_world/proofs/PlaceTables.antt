-- The places of slots, as code adds them.
use Rattle.std.proofs.Common.{◌≡◌, ◌<◌, ◌+◌, ◌++◌, ℕ, List, [], ◌∷◌, length, take, flat_map, append_assoc, ap, sym, ◌∙◌}
use Rattle.std.proofs.Math.ListN.{get_or}
use Rattle.std.proofs.lemmas.List.{flat_map_more, take_more}
use Rattle.mc_model.specs.Worlds.{ChannelState, places_among, places_within}
use Rattle.mc_model.specs.declared.channel.Tunnel.{Tunnel}

-- of one channel more
pub channel_more : (channels : List ChannelState) (i : ℕ) (ends : ChannelState) (now next : List (ℕ × ℕ)) → i < length channels → ends ≡ get_or channels i ends → now ≡ places_among (take i channels) → next ≡ now ++ places_within ends
    → next ≡ places_among (take (i + 1) channels)
channel_more channels i ends now next below is so_far more =
    more
    ∙ (ap (λ (l : List (ℕ × ℕ)). l ++ places_within ends) so_far
    ∙ (flat_map_more places_within [] (take i channels) ends
    ∙ ap (λ (l : List ChannelState). places_among l) (ap (λ (e : ChannelState). take i channels ++ e ∷ []) is ∙ sym (take_more channels i ends below))))

-- of one tunnel more, which has two
pub tunnel_more : (f : Tunnel → List (ℕ × ℕ)) (near far : Tunnel → ℕ × ℕ) (before now one next : List (ℕ × ℕ)) (tunnels : List Tunnel) (i : ℕ) (d : Tunnel) → ((tunnel : Tunnel) → f tunnel ≡ near tunnel ∷ far tunnel ∷ [])
    → i < length tunnels → now ≡ before ++ flat_map f (take i tunnels) → one ≡ now ++ near (get_or tunnels i d) ∷ [] → next ≡ one ++ far (get_or tunnels i d) ∷ [] → next ≡ before ++ flat_map f (take (i + 1) tunnels)
tunnel_more f near far before now one next tunnels i d are below so_far first second =
    let tunnel : Tunnel = get_or tunnels i d in
    second
    ∙ (ap (λ (l : List (ℕ × ℕ)). l ++ far tunnel ∷ []) first
    ∙ (append_assoc now (near tunnel ∷ []) (far tunnel ∷ [])
    ∙ (ap (λ (l : List (ℕ × ℕ)). now ++ l) (sym (are tunnel))
    ∙ (ap (λ (l : List (ℕ × ℕ)). l ++ f tunnel) so_far
    ∙ (flat_map_more f before (take i tunnels) tunnel ∙ ap (λ (l : List Tunnel). before ++ flat_map f l) (sym (take_more tunnels i d below)))))))
