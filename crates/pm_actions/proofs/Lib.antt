mod QuietDelivering
mod PerformLemmas
