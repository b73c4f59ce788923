mod FirstsLemmas
mod NextsLemmas
mod RankedLemmas
mod Offers
mod WithAd
